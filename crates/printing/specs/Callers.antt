-- Laws for callers: what the promise of `print` says of the text at exit.
use Rattle.std.specs.Prelude.{◌≡◌, Bool, ◌↔◌, List, ℕ, zero, suc, ◌≤◌, ◌<◌, ltb, take, drop}
use Rattle.std.proofs.Common.{sym, ap₂, ◌∙◌}
use Rattle.std.proofs.Math.Path.{ap}
use Rattle.std.proofs.Math.Bool.{true, false}
use Rattle.std.proofs.Math.Decide.{dec_lt}
use native.Mathlib.Omega.{arith}
use Rattle.std.proofs.Math.ListN.{length, length-append}
use Rattle.sequences.specs.Cases.{when, first_some, first_none}
use Rattle.sequences.specs.Over.{over, take_over}
use Rattle.answers.specs.Put.{Put}
use Rattle.answers.specs.declared.Written.{Written}
use Rattle.pgm.specs.Picture.{scan}
use Rattle.pgm.specs.Accepted.{number_low}
use Rattle.printing.specs.Printed.{input_limit, input_number, picture_text, whole_text, text_need, text_room, refused_line, print_number, printed, Printing}
use Rattle.printing.specs.Printable.{too_long, by_picture, accepted_text, refusal_text, all_printed}
use Rattle.printing.specs.declared.order.Order.{Order}

module _ {order : Order} {bytes text bytes' text' : List ℕ} {w : Written} (p : Printing order bytes text bytes' text' w) where
  -- The answer says how many bytes were written, and they are in the list.
  pub count_within : w.count ≤ length text'
  unfolding over
  count_within =
      omega (arith, p.count_is, ap length p.in_text, length-append (printed order bytes (length text)) (drop (length (printed order bytes (length text))) text))

  pub text_written : take w.count text' ≡ printed order bytes (length text)
  text_written = ap₂ take p.count_is p.in_text ∙ take_over (printed order bytes (length text)) text

  -- "15 begins above 16,384" (document 02, i): there and nowhere else, however long the text is.
  pub fifteen_exactly : w.number ≡ 15 ↔ input_limit < length bytes
  unfolding print_number when
  fifteen_exactly = (λ e. only e (dec_lt input_limit (length bytes)), λ h. p.number_is ∙ first_some (input_number bytes) _ (omega (arith, too_long bytes h)) ∙ too_long bytes h)
    where
      last : (t : Bool) → when t 8 ≤ 8
      last true = omega arith
      last false = omega arith

      other : (k : ℕ) → input_number bytes ≡ k → k ≤ 14 → print_number bytes (length text) ≤ 14
      other zero e l = omega (arith, first_none (input_number bytes) (when (ltb (length text) (text_need bytes)) 8) e, last (ltb (length text) (text_need bytes)))
      other (suc k) e l = omega (arith, first_some (input_number bytes) (when (ltb (length text) (text_need bytes)) 8) (omega (arith, e)), e)

      only : w.number ≡ 15 → Dec (input_limit < length bytes) → input_limit < length bytes
      only e (yes h) = h
      only e (no h) =
          let few : input_number bytes ≡ (scan bytes).number = by_picture bytes (omega arith) in
          absurd (omega (arith, e, p.number_is, other (scan bytes).number few (number_low bytes)))

  -- A list of that length takes the whole text of any bytes.
  module _ (large : text_room ≤ length text) where
    pub whole_text_written : take w.count text' ≡ whole_text order bytes
    whole_text_written = text_written ∙ (all_printed bytes order (length text) large).0

    pub whole_text_put : Put (whole_text order bytes) text text' w.count
    whole_text_put =
        let all : printed order bytes (length text) ≡ whole_text order bytes = (all_printed bytes order (length text) large).0 in
        record { count_is = p.count_is ∙ ap length all; list = p.in_text ∙ ap (λ (l : List ℕ). over l text) all }

    pub number_of_input : w.number ≡ input_number bytes
    number_of_input = p.number_is ∙ (all_printed bytes order (length text) large).1

    -- "one line a region" for number 0, and "refused ", the number and LF only" for any other.
    pub lines_of_picture : w.number ≡ 0 → take w.count text' ≡ picture_text order bytes
    lines_of_picture z = whole_text_written ∙ accepted_text bytes (sym number_of_input ∙ z) order

    pub line_of_refusal : 0 < w.number → take w.count text' ≡ refused_line w.number
    line_of_refusal h = whole_text_written ∙ refusal_text bytes h (sym number_of_input) order

    -- "Both programs now take 16,384 bytes" (document 02, i): a picture within them is not refused.
    pub picture_taken : length bytes ≤ input_limit → (scan bytes).number ≡ 0 → w.number ≡ 0
    picture_taken h z = number_of_input ∙ by_picture bytes h ∙ z
