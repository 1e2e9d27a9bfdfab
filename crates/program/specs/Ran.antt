-- What a run of a program leaves: the bytes that were read, and the text that is printed for them.
use Rattle.std.specs.Prelude.{◌≡◌, List, ℕ, ◌≤◌, ◌<◌, length, take}
use Rattle.std.proofs.Common.{ap, ◌∙◌, arith, length-take}
use Rattle.sequences.specs.Over.{over}
use Rattle.printing.specs.Printed.{input_limit, text_room, refused_line, whole_text}
use Rattle.printing.specs.Printable.{too_long, refusal_text}
use Rattle.printing.specs.declared.order.Order.{Order}

-- "Both programs now take 16,384 bytes" (document 02, i). What is asked of the lists that a program lends: a buffer longer than that, so that a
-- longer input is seen and not cut, and room for any text.
pub record Room (buffer text : List ℕ) : Type 0 where
  pub longer : input_limit < length buffer
  pub large : text_room ≤ length text

-- The program "reads a P5 file on standard input .. and prints one line a region" (document 01, "Path, chain and picture"), here for files
-- whose samples stand in this order. What was read is up to the system: `read` bytes at the front of the buffer. At the front of the text,
-- `text` before and text' after, stands the whole text for them; beyond it the text is unchanged.
pub record Ran (order : Order) (buffer text text' : List ℕ) : Type 0 where
  pub read : ℕ
  pub inside : read ≤ length buffer
  pub in_text : text' ≡ over (whole_text order (take read buffer)) text

-- A longer input is seen: "15 begins above 16,384" (document 02, i), and the line of it is printed.
pub long_refused : {order : Order} {buffer text text' : List ℕ} (p : Ran order buffer text text') → input_limit < p.read → text' ≡ over (refused_line 15) text
long_refused {order} {buffer} {text} p h =
    let long : input_limit < length (take p.read buffer) = omega (arith, length-take p.read buffer, p.inside) in
    p.in_text ∙ ap (λ (l : List ℕ). over l text) (refusal_text (take p.read buffer) (omega arith) (too_long (take p.read buffer) long) order)
