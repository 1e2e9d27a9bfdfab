-- The answers of `print` in the order of its tests.
use Rattle.std.specs.Prelude.{◌≡◌, ℕ, ◌*◌, ◌^◌, ◌≤◌, ◌<◌, length, take}
use Rattle.std.proofs.Common.{sym, ap, ◌∙◌, subst, arith}
use Rattle.std.proofs.Math.Path.{ap₂}
use mathlib.Core.List.{List}
use Rattle.location.specs.Levels.{pixels_of, pixels_are_power}
use Rattle.answers.specs.Put.{Put}
use Rattle.answers.specs.declared.Written.{Written}
use Rattle.pgm.specs.Picture.{scan}
use Rattle.pgm.specs.Reading.{Reading}
use Rattle.pgm.specs.Accepted.{raster_is_square}
use Rattle.pgm.specs.Callers.{number_of_file, n-is, front_is, count_is_square, raster_long_enough, length_unchanged}
use Rattle.pgm.specs.declared.Picture.{Picture}
use Rattle.drawing.specs.Outlines.{image_text, image_text_fits}
use Rattle.drawing.specs.Picturing.{RasterFits, few_pixels}
use Rattle.printing.specs.Printed.{input_limit, input_number, image_of, picture_text, text_room, Printing, Refusing}
use Rattle.printing.specs.Printable.{too_long, by_picture, refusal-range, refusal-printed, short_printed, picture-printed, side_at_most_64}
use Rattle.printing.specs.declared.order.Order.{Order}

-- 15 before all else.
pub long_printed : {order : Order} {bytes text text' : List ℕ} {w : Written} → input_limit < length bytes → Refusing 15 text text' w → Printing order bytes text bytes text' w
long_printed {order} {bytes} h r = refusal-printed bytes (omega arith) (too_long bytes h) r

-- The reader's answer to an input that is not too long, and the raster of 4,096 entries that it is lent.
module _ {bytes lent after raster : List ℕ} {p : Picture} (short : length bytes ≤ input_limit) (room : 4096 ≤ length lent) (a : Reading bytes lent after raster p) where
  number_read : input_number bytes ≡ p.number
  number_read =
      by_picture bytes short ∙ sym (number_of_file a (λ z. omega (arith, few_pixels (side_at_most_64 bytes short z))))

  pub two_digits : (p.number ≡ 0 → ⊥) → (10 ≤ p.number) × (p.number < 100)
  two_digits d =
      let r = refusal-range bytes (λ z. d (sym number_read ∙ z)) in
      (omega (arith, number_read, r.0), omega (arith, number_read, r.1))

  pub refused_printed : {order : Order} {text text' : List ℕ} {w : Written} → (p.number ≡ 0 → ⊥) → Refusing p.number text text' w → Printing order bytes text bytes text' w
  refused_printed d r = refusal-printed bytes (omega (arith, (two_digits d).0)) number_read r

  -- 10 to 14 do not apply. `whole` is the number of pixels.
  module _ (z : p.number ≡ 0) where
    accepted : (scan bytes).number ≡ 0
    accepted = sym (by_picture bytes short) ∙ number_read ∙ z

    pub low : p.n ≤ 6
    low = omega (arith, n-is a z, side_at_most_64 bytes short accepted)

    pub samples-inside : p.count ≤ length raster
    samples-inside = omega (arith, count_is_square a z, raster_long_enough a z, length_unchanged a z)

    module _ {whole : ℕ} (w : whole ≡ pixels_of p.n) where
      size : whole ≡ 4 ^ p.n
      size = w ∙ pixels_are_power p.n (omega (arith, low))

      pub few : whole ≤ 4096
      few = omega (arith, size, few_pixels low)

      need : 26 * 4 ^ (scan bytes).n ≡ 26 * whole
      need = omega (arith, size, ap (λ (k : ℕ). 4 ^ k) (n-is a z))

      pub eight_printed : {order : Order} {text : List ℕ} → length text < 26 * whole → Printing order bytes text bytes text (record { number = 8; count = 0 })
      eight_printed h = short_printed bytes (number_read ∙ z) (omega (arith, need))

      pub drawing : {text : List ℕ} → 26 * whole ≤ length text → RasterFits p.n (take p.count raster) text
      drawing h =
          record { low = low; whole = ap length (front_is a z) ∙ raster_is_square bytes accepted ∙ ap (λ (k : ℕ). 4 ^ k) (sym (n-is a z)); enough = omega (arith, size) }

      module _ (order : Order) {text text' : List ℕ} {k : ℕ} (enough : 26 * whole ≤ length text) (q : Put (image_text p.n (image_of order p.n (take p.count raster))) text text' k) where
        pub count_fits : k ≤ text_room
        count_fits = omega (arith, q.count_is, few_pixels low, image_text_fits p.n (image_of order p.n (take p.count raster)) (omega (arith, low)))

        pub lines-printed : Printing order bytes text bytes text' (record { number = 0; count = k })
        unfolding picture_text
        lines-printed =
            let same : image_text p.n (image_of order p.n (take p.count raster)) ≡ picture_text order bytes =
            ap₂ (λ (i : ℕ) (l : List ℕ). image_text i (image_of order i l)) (n-is a z) (front_is a z) in
            picture-printed bytes (number_read ∙ z) (omega (arith, need)) (subst (λ (l : List ℕ). Put l text text' k) same q)
