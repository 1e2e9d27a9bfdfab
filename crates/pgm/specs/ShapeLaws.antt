-- Laws of the causes 11 to 13: each in its place, and what passes them.
use Rattle.std.specs.Prelude.{◌≡◌, None, Some, Result, Ok, Err, Bool, not, ◌⊎◌, ℕ, ◌*◌, ◌^◌, ◌≤◌, ◌<◌, ltb, eqb}
use Rattle.std.proofs.Math.Path.{refl, sym, ap₂}
use Rattle.std.proofs.Common.{ap, ◌∙◌, inl, inr}
use Rattle.std.proofs.Math.Bool.{true, false}
use Rattle.std.proofs.lemmas.Bool.{false≢true}
use native.Mathlib.Omega.{arith}
use borrow.Author.Tests.{lt-ltb, le-ltb, ltb-false, eq-eqb, ne_eqb, eqb-true, not-false}
use Rattle.sequences.specs.Cases.{and_both, not_flips, or_right}
use Rattle.sequences.specs.Powers.{pow4_mono, square_of_side}
use Rattle.headers.specs.Header.{Fields}
use Rattle.pgm.specs.Exponent.{exponent, side_number, side_n, exponent_power, exponent_of_power}
use Rattle.pgm.specs.Samples.{is_wide, sample_bytes, neither}
use Rattle.pgm.specs.Picture.{square, outside, filled}
use Rattle.pgm.specs.Shaped.{demand_shape, shaped, shape_number, shape_n, shape_count, shape_wide, is_passed}
use Rattle.answers.specs.declared.cause.Cause.{Cause}
use Rattle.answers.specs.Causes.{number_of}
use Rattle.pgm.specs.declared.shape.Shape.{Shape}

-- The causes in their order: each applies where those before it do not.
module _ (f : Fields) (size : ℕ) where
  pub width_not_height : (f.width ≡ f.height → ⊥) → Err Cause.SidesUnfit ≡ shaped f size
  unfolding shaped square
  width_not_height d = rw (ne_eqb f.width f.height d) refl

  module _ (equal : f.width ≡ f.height) where
    pub width_no_power : exponent f.width ≡ None → Err Cause.SidesUnfit ≡ shaped f size
    unfolding shaped square
    width_no_power h = rw (eq-eqb f.width f.height equal, h) refl

    module _ {n : ℕ} (power : exponent f.width ≡ Some n) where
      past_11 : square f ≡ true
      unfolding square
      past_11 = rw (eq-eqb f.width f.height equal, power) refl

      pub maxval_outside : outside f ≡ true → Err Cause.MaxvalOutOfRange ≡ shaped f size
      unfolding shaped
      maxval_outside h = rw (past_11, h) refl

      module _ (within : outside f ≡ false) where
        abbrev need : ℕ
        need = sample_bytes (is_wide f.maxval) * (f.width * f.height)

        pub size_wrong : not (eqb size need) ≡ true → Err Cause.BytesNotSamples ≡ shaped f size
        unfolding shaped filled
        size_wrong e = rw (past_11, within, not_flips (eqb size need) e) refl

        pub size_right : not (eqb size need) ≡ false → Ok (record { n = n; count = f.width * f.height; wide = is_wide f.maxval }) ≡ shaped f size
        unfolding shaped filled
        size_right e = rw (past_11, within, not-false (eqb size need) e, power) refl

-- What 11 lets pass has one power of two for its width and its height.
square_says : (f : Fields) → square f ≡ true → let n = side_n (exponent f.width) in (n ≤ 8) × (f.width ≡ 2 ^ n) × (f.height ≡ 2 ^ n)
unfolding square
square_says f s =
    let (equal, found) = and_both (eqb f.width f.height) (eqb (side_number (exponent f.width)) 0) s in
    let (power, small) = exponent_power f.width (eqb-true _ 0 found) in
    (small, sym power, sym (eqb-true f.width f.height equal) ∙ sym power)

-- Width and height are not one power of two from 1 to 256.
pub not_square : (f : Fields) (size : ℕ) → ((n : ℕ) → n ≤ 8 → f.width ≡ 2 ^ n → f.height ≡ 2 ^ n → ⊥) → Err Cause.SidesUnfit ≡ shaped f size
unfolding shaped
not_square f size none = pick (square f) refl
  where
    pick : (t : Bool) → square f ≡ t → Err Cause.SidesUnfit ≡ shaped f size
    pick false e = rw e refl
    pick true e = let (small, width, height) = square_says f e in absurd (none (side_n (exponent f.width)) small width height)

-- A width and a height that pass 11: 12 and 13 by numbers, and the shape of what passes them.
module _ (f : Fields) (size : ℕ) {n : ℕ} (width : f.width ≡ 2 ^ n) (height : f.height ≡ 2 ^ n) (side : n ≤ 8) where
  equal_sides : f.width ≡ f.height
  equal_sides = width ∙ sym height

  side_power : exponent f.width ≡ Some n
  side_power = ap exponent width ∙ exponent_of_power n side

  pixels : f.width * f.height ≡ 4 ^ n
  pixels = ap₂ (λ (a b : ℕ). a * b) width height ∙ square_of_side n

  pub outside_shape : (f.maxval < 1) ⊎ (65535 < f.maxval) → shaped f size ≡ Err Cause.MaxvalOutOfRange
  unfolding outside
  outside_shape h = sym (maxval_outside f size equal_sides side_power (told h))
    where
      told : (f.maxval < 1) ⊎ (65535 < f.maxval) → outside f ≡ true
      told (inl l) = rw (lt-ltb f.maxval 1 l) refl
      told (inr u) = or_right (ltb f.maxval 1) (ltb 65535 f.maxval) (lt-ltb 65535 f.maxval u)

  module _ (low : 1 ≤ f.maxval) (high : f.maxval ≤ 65535) where
    within : outside f ≡ false
    unfolding outside
    within = rw (le-ltb f.maxval 1 low, le-ltb 65535 f.maxval high) refl

    abbrev need_of : ℕ → ℕ
    need_of count = sample_bytes (is_wide f.maxval) * count

    pub unfilled_shape : (size ≡ need_of (4 ^ n) → ⊥) → shaped f size ≡ Err Cause.BytesNotSamples
    unfilled_shape d = sym (size_wrong f size equal_sides side_power within (ap not (ne_eqb size (need_of (f.width * f.height)) (λ e. d (e ∙ ap need_of pixels)))))

    pub filled_shape : size ≡ need_of (4 ^ n) → shaped f size ≡ Ok (record { n = n; count = 4 ^ n; wide = is_wide f.maxval })
    filled_shape e =
        sym (size_right f size equal_sides side_power within (ap not (eq-eqb size (need_of (f.width * f.height)) (e ∙ sym (ap need_of pixels)))))
        ∙ ap (λ (count : ℕ). Ok (record { n = n; count = count; wide = is_wide f.maxval })) pixels

-- What passes 11 to 13.
pub record ShapeFacts (f : Fields) (size n count : ℕ) (wide : Bool) : Type 0 where
  pub side : n ≤ 8
  pub n-is : n ≡ side_n (exponent f.width)
  pub width_is : f.width ≡ 2 ^ n
  pub height_is : f.height ≡ 2 ^ n
  pub whole : count ≡ f.width * f.height
  pub square_is : count ≡ 4 ^ n
  pub few : count ≤ 65536
  pub low : 1 ≤ f.maxval
  pub high : f.maxval ≤ 65535
  pub wide_is : wide ≡ is_wide f.maxval
  pub full : size ≡ sample_bytes wide * count

-- A refusal is one of 11 to 13.
pub refused_11_to_13 : (f : Fields) (size : ℕ) {cause : Cause} → shaped f size ≡ Err cause → (11 ≤ number_of cause) × (number_of cause ≤ 13)
unfolding shaped demand_shape
refused_11_to_13 f size {cause} e = pick (square f) (not (outside f)) (filled f size) e
  where
    samples : Result Shape Cause
    samples = Ok (record { n = side_n (exponent f.width); count = f.width * f.height; wide = is_wide f.maxval })

    pick : (t u v : Bool) → demand_shape Cause.SidesUnfit t (demand_shape Cause.MaxvalOutOfRange u (demand_shape Cause.BytesNotSamples v samples)) ≡ Err cause → (11 ≤ number_of cause) × (number_of cause ≤ 13)
    pick false u v e = (omega (arith, ap shape_number e), omega (arith, ap shape_number e))
    pick true false v e = (omega (arith, ap shape_number e), omega (arith, ap shape_number e))
    pick true true false e = (omega (arith, ap shape_number e), omega (arith, ap shape_number e))
    pick true true true e = absurd (false≢true (sym (ap is_passed e)))

module _ {n count : ℕ} {wide : Bool} where
  demand_passed : (cause : Cause) (t : Bool) (s : Result Shape Cause) → demand_shape cause t s ≡ Ok (record { n = n; count = count; wide = wide })
      → (t ≡ true) × (s ≡ Ok (record { n = n; count = count; wide = wide }))
  unfolding demand_shape
  demand_passed cause true s e = (refl, e)
  demand_passed cause false s e = absurd (false≢true (ap is_passed e))

  pub shape_facts : (f : Fields) (size : ℕ) → shaped f size ≡ Ok (record { n = n; count = count; wide = wide }) → ShapeFacts f size n count wide
  unfolding shaped outside filled
  shape_facts f size e =
      let (s, e1) = demand_passed Cause.SidesUnfit (square f) _ e in
      let (r, e2) = demand_passed Cause.MaxvalOutOfRange (not (outside f)) _ e1 in
      let (full, e3) = demand_passed Cause.BytesNotSamples (filled f size) _ e2 in
      let (small, width, height) = square_says f s in
      let n-is : n ≡ side_n (exponent f.width) = sym (ap shape_n e3) in
      let whole : count ≡ f.width * f.height = sym (ap shape_count e3) in
      let wide_is : wide ≡ is_wide f.maxval = sym (ap shape_wide e3) in
      let side : n ≤ 8 = omega arith in
      let width_is : f.width ≡ 2 ^ n = width ∙ sym (ap (λ (k : ℕ). 2 ^ k) n-is) in
      let height_is : f.height ≡ 2 ^ n = height ∙ sym (ap (λ (k : ℕ). 2 ^ k) n-is) in
      let square_is : count ≡ 4 ^ n = whole ∙ ap₂ (λ (a b : ℕ). a * b) width_is height_is ∙ square_of_side n in
      let (low, high) = neither (ltb f.maxval 1) (ltb 65535 f.maxval) (not_flips (outside f) r) in
      record {
        side = side;
        n-is = n-is;
        width_is = width_is;
        height_is = height_is;
        whole = whole;
        square_is = square_is;
        few = omega (arith, square_is, pow4_mono {i = n} {j = 8} side);
        low = ltb-false f.maxval 1 low;
        high = ltb-false 65535 f.maxval high;
        wide_is = wide_is;
        full = eqb-true size _ full ∙ ap₂ (λ (t : Bool) (k : ℕ). sample_bytes t * k) (sym wide_is) (sym whole);
      }
