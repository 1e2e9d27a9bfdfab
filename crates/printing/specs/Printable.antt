-- Laws of what is printed: the need suffices, and the answers in the order of the tests.
use Rattle.std.specs.Prelude.{◌≡◌, ltb}
use Rattle.std.proofs.Math.Path.{refl, sym, ap, ap₂}
use Rattle.std.proofs.Common.{◌∙◌, arith, lt-ltb, le-ltb, ltb-false}
use mathlib.Core.List.{List, [], ◌∷◌}
use Prim.Native.Nat.{ℕ, zero, suc, ◌+◌, ◌*◌, ◌/◌, ◌%◌, ◌^◌, ◌≤◌, ◌<◌}
use Rattle.std.proofs.Math.Decide.{dec_lt}
use Rattle.std.proofs.Math.ListN.{length}
use Rattle.std.proofs.lemmas.List.Edits.{sets}
use Rattle.std.proofs.Math.Seq.{sets-eq}
use Rattle.sequences.specs.Cases.{first, when, first_none, first_some, first-zero, when_yes, when_no, when_zero}
use Rattle.sequences.specs.Over.{over, over_none}
use Rattle.sequences.specs.Powers.{pow4_mono}
use Rattle.decimals.specs.Decimal.{decimal_two}
use Rattle.answers.specs.Put.{Put}
use Rattle.answers.specs.declared.Written.{Written}
use Rattle.pgm.specs.Picture.{scan}
use Rattle.pgm.specs.Accepted.{refused_number, longer_than_samples}
use Rattle.drawing.specs.Outlines.{image_text_fits}
use Rattle.printing.specs.Printed.{refused_line, input_limit, input_number, image_of, picture_text, text_for, whole_text, need_for, text_need, text_room, print_number, if_room, printed, Printing, Refusing}
use Rattle.printing.specs.declared.order.Order.{Order}

-- The line of a number of two digits, byte by byte.
abbrev pub two_digit_line : ℕ → List ℕ
two_digit_line number = 114 ∷ 101 ∷ 102 ∷ 117 ∷ 115 ∷ 101 ∷ 100 ∷ 32 ∷ (48 + number / 10) ∷ (48 + number % 10) ∷ 10 ∷ []

pub line_of_two : (number : ℕ) → 10 ≤ number → number < 100 → refused_line number ≡ two_digit_line number
unfolding refused_line
line_of_two number h l = rw (decimal_two number h l) refl

pub line-length : (number : ℕ) → 10 ≤ number → number < 100 → length (refused_line number) ≡ 11
line-length number h l = ap length (line_of_two number h l)

-- The number of the input, cause by cause.
module _ (bytes : List ℕ) where
  pub too_long : input_limit < length bytes → input_number bytes ≡ 15
  unfolding input_number
  too_long h = rw (lt-ltb input_limit (length bytes) h) refl

  pub by_picture : length bytes ≤ input_limit → input_number bytes ≡ (scan bytes).number
  unfolding input_number
  by_picture h = rw (le-ltb input_limit (length bytes) h) refl

  pub accepted_says : input_number bytes ≡ 0 → (length bytes ≤ input_limit) × ((scan bytes).number ≡ 0)
  unfolding input_number
  accepted_says e =
      let z = first-zero (when (ltb input_limit (length bytes)) 15) (scan bytes).number e in
      (ltb-false input_limit (length bytes) (when_zero (ltb input_limit (length bytes)) 15 (omega arith) z.0), z.1)

  -- A refusal has one of the numbers 10 to 15.
  pub refusal-range : (input_number bytes ≡ 0 → ⊥) → (10 ≤ input_number bytes) × (input_number bytes ≤ 15)
  refusal-range d = pick (dec_lt input_limit (length bytes))
    where
      pick : Dec (input_limit < length bytes) → (10 ≤ input_number bytes) × (input_number bytes ≤ 15)
      pick (yes h) = (omega (arith, too_long h), omega (arith, too_long h))
      pick (no h) =
          let e : input_number bytes ≡ (scan bytes).number = by_picture (omega arith) in
          let r = refused_number bytes (λ z. d (e ∙ z)) in
          (omega (arith, e, r.0), omega (arith, e, r.1))

-- A list that is long enough takes all, and a shorter one nothing.
module _ (size need : ℕ) (new : List ℕ) where
  pub room_for_all : need ≤ size → if_room size need new ≡ new
  unfolding if_room
  room_for_all h = rw (le-ltb size need h, if_room) refl

  pub no_room : size < need → if_room size need new ≡ []
  unfolding if_room
  no_room h = rw (lt-ltb size need h, if_room) refl

-- The line of a refusal where it has no room, and where it is stored byte by byte.
module _ {number : ℕ} {text : List ℕ} (two : (10 ≤ number) × (number < 100)) where
  pub refused_silently : length text < 11 → Refusing number text text (record { number = number; count = 0 })
  refused_silently h =
      let none : if_room (length text) (length (refused_line number)) (refused_line number) ≡ [] =
      no_room (length text) (length (refused_line number)) (refused_line number) (omega (arith, line-length number two.0 two.1)) in
      record { number_is = refl; count_is = sym (ap length none); in_text = sym (ap (λ (l : List ℕ). over l text) none ∙ over_none text) }

  pub refused_in_line : 11 ≤ length text → Refusing number text (sets text 0 (two_digit_line number)) (record { number = number; count = 11 })
  unfolding over
  refused_in_line h =
      let all : if_room (length text) (length (refused_line number)) (refused_line number) ≡ two_digit_line number =
      room_for_all (length text) (length (refused_line number)) (refused_line number) (omega (arith, line-length number two.0 two.1))
      ∙ line_of_two number two.0 two.1 in
      record {
        number_is = refl;
        count_is = sym (ap length all);
        in_text = sets-eq (two_digit_line number) text 0 (omega arith) ∙ ap (λ (l : List ℕ). over l text) (sym all);
      }

-- The text, the need and the number of a refusal.
module _ (bytes : List ℕ) {number : ℕ} (some : 0 < number) (e : input_number bytes ≡ number) where
  pub refusal_text : (order : Order) → whole_text order bytes ≡ refused_line number
  unfolding whole_text text_for
  refusal_text order = ap (λ (k : ℕ). text_for order k bytes) e ∙ pick number some
    where
      pick : (k : ℕ) → 0 < k → text_for order k bytes ≡ refused_line k
      pick zero p = absurd (omega arith)
      pick (suc k) p = refl

  refusal-need : text_need bytes ≡ length (refused_line number)
  unfolding text_need need_for
  refusal-need = ap (λ (k : ℕ). need_for k bytes) e ∙ pick number some
    where
      pick : (k : ℕ) → 0 < k → need_for k bytes ≡ length (refused_line k)
      pick zero p = absurd (omega arith)
      pick (suc k) p = refl

  refusal-number : (size : ℕ) → print_number bytes size ≡ number
  unfolding print_number
  refusal-number size = first_some (input_number bytes) (when (ltb size (text_need bytes)) 8) (omega (arith, e)) ∙ e

  pub refusal-printed : {order : Order} {text text' : List ℕ} {w : Written} → Refusing number text text' w → Printing order bytes text bytes text' w
  unfolding printed
  refusal-printed {order} {text} {text'} {w} r =
      let same : if_room (length text) (length (refused_line number)) (refused_line number) ≡ printed order bytes (length text) =
      ap₂ (λ (m : ℕ) (l : List ℕ). if_room (length text) m l) (sym refusal-need) (sym (refusal_text order)) in
      record {
        number_is = r.number_is ∙ sym (refusal-number (length text));
        count_is = r.count_is ∙ ap length same;
        in_text = r.in_text ∙ ap (λ (l : List ℕ). over l text) same;
        in_bytes = refl;
      }

-- The text, the need and the number of an accepted picture.
module _ (bytes : List ℕ) (e : input_number bytes ≡ 0) where
  pub accepted_text : (order : Order) → whole_text order bytes ≡ picture_text order bytes
  unfolding whole_text text_for
  accepted_text order = ap (λ (k : ℕ). text_for order k bytes) e

  accepted_need : text_need bytes ≡ 26 * 4 ^ (scan bytes).n
  unfolding text_need need_for
  accepted_need = ap (λ (k : ℕ). need_for k bytes) e

  pub short_printed : {order : Order} {text : List ℕ} → length text < 26 * 4 ^ (scan bytes).n → Printing order bytes text bytes text (record { number = 8; count = 0 })
  unfolding print_number printed
  short_printed {order} {text} h =
      let l : length text < text_need bytes = omega (arith, accepted_need) in
      let none : printed order bytes (length text) ≡ [] = no_room (length text) (text_need bytes) (whole_text order bytes) l in
      record {
        number_is =
            sym (first_none (input_number bytes) (when (ltb (length text) (text_need bytes)) 8) e ∙ when_yes (ltb (length text) (text_need bytes)) 8 (lt-ltb (length text) (text_need bytes) l));
        count_is = sym (ap length none);
        in_text = sym (ap (λ (x : List ℕ). over x text) none ∙ over_none text);
        in_bytes = refl;
      }

  pub picture-printed : {order : Order} {text text' : List ℕ} {count : ℕ} → 26 * 4 ^ (scan bytes).n ≤ length text → Put (picture_text order bytes) text text' count
      → Printing order bytes text bytes text' (record { number = 0; count = count })
  unfolding print_number printed
  picture-printed {order} {text} {text'} {count} h p =
      let l : text_need bytes ≤ length text = omega (arith, accepted_need) in
      let all : printed order bytes (length text) ≡ picture_text order bytes = room_for_all (length text) (text_need bytes) (whole_text order bytes) l ∙ accepted_text order in
      record {
        number_is =
            sym (first_none (input_number bytes) (when (ltb (length text) (text_need bytes)) 8) e ∙ when_no (ltb (length text) (text_need bytes)) 8 (le-ltb (length text) (text_need bytes) l));
        count_is = p.count_is ∙ ap length (sym all);
        in_text = p.list ∙ ap (λ (x : List ℕ). over x text) (sym all);
        in_bytes = refl;
      }

-- An accepted picture of at most 16,384 bytes has a side of at most 64: one of side 128 has 16,384 samples, and a header besides.
pub side_at_most_64 : (bytes : List ℕ) → length bytes ≤ input_limit → (scan bytes).number ≡ 0 → (scan bytes).n ≤ 6
side_at_most_64 bytes short z = pick (dec_lt 6 (scan bytes).n)
  where
    pick : Dec (6 < (scan bytes).n) → (scan bytes).n ≤ 6
    pick (yes h) =
        let m : 4 ^ 7 ≤ 4 ^ (scan bytes).n = pow4_mono {i = 7} {j = (scan bytes).n} (omega arith) in
        absurd (omega (arith, m, longer_than_samples bytes z))
    pick (no h) = omega arith

-- The need of 26 times 4^n, or of the line of a refusal, suffices; and it is never more than that many bytes.
module _ (order : Order) (bytes : List ℕ) where
  pub picture_fits : input_number bytes ≡ 0 → length (picture_text order bytes) ≤ 26 * 4 ^ (scan bytes).n
  unfolding picture_text
  picture_fits e =
      let a = accepted_says bytes e in
      let low : (scan bytes).n ≤ 6 = side_at_most_64 bytes a.0 a.1 in
      image_text_fits (scan bytes).n (image_of order (scan bytes).n (scan bytes).raster) (omega arith)

  pub text_fits : length (whole_text order bytes) ≤ text_need bytes
  text_fits = pick (input_number bytes) refl
    where
      pick : (k : ℕ) → input_number bytes ≡ k → length (whole_text order bytes) ≤ text_need bytes
      pick zero e = omega (arith, ap length (accepted_text bytes e order), accepted_need bytes e, picture_fits e)
      pick (suc k) e = omega (arith, ap length (refusal_text bytes (omega arith) e order), refusal-need bytes (omega arith) e)

module _ (bytes : List ℕ) where
  pub need_at_most : text_need bytes ≤ text_room
  need_at_most = pick (input_number bytes) refl
    where
      pick : (k : ℕ) → input_number bytes ≡ k → text_need bytes ≤ text_room
      pick zero e =
          let a = accepted_says bytes e in
          let m : 4 ^ (scan bytes).n ≤ 4 ^ 6 = pow4_mono {i = (scan bytes).n} {j = 6} (side_at_most_64 bytes a.0 a.1) in
          omega (arith, accepted_need bytes e)
      pick (suc k) e =
          let r = refusal-range bytes (λ z. let h : ⊥ = omega arith in h) in
          omega (arith, refusal-need bytes (omega arith) e, line-length (suc k) (omega (arith, r.0)) (omega (arith, r.1)))

  -- So a text list of that many bytes takes the whole text of any bytes, and the number is that of the bytes.
  pub all_printed : (order : Order) (size : ℕ) → text_room ≤ size → (printed order bytes size ≡ whole_text order bytes) × (print_number bytes size ≡ input_number bytes)
  unfolding printed print_number
  all_printed order size h =
      let l : text_need bytes ≤ size = omega (arith, need_at_most) in
      (room_for_all size (text_need bytes) (whole_text order bytes) l, pick (input_number bytes) l)
    where
      pick : (k : ℕ) → text_need bytes ≤ size → first k (when (ltb size (text_need bytes)) 8) ≡ k
      pick zero l = first_none 0 (when (ltb size (text_need bytes)) 8) refl ∙ when_no (ltb size (text_need bytes)) 8 (le-ltb size (text_need bytes) l)
      pick (suc k) l = first_some (suc k) (when (ltb size (text_need bytes)) 8) (omega arith)
