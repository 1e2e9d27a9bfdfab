-- The loop that looks for the exponent of a width: those below n are not it.
use mathlib.Core.Path.{◌≡◌, refl, sym, ap, ◌∙◌}
use Prim.Native.Nat.{ℕ, suc, ◌+◌, ◌*◌, ◌-◌, ◌^◌, ◌≤◌, ◌<◌}
use native.Mathlib.Nat.{pow-suc}
use native.Mathlib.Numerals.{add-one}
use native.Mathlib.Omega.{arith}
use Rattle.std.specs.Prelude.{None, Some}
use Rattle.sequences.specs.Powers.{pow2_mono}
use Rattle.pgm.specs.Exponent.{exponent_from, exponent, from_here, from_next}

pub record Searching (width n power : ℕ) : Type 0 where
  pub small : n ≤ 9
  pub doubled : power ≡ 2 ^ n
  pub same : exponent_from (9 - n) n width ≡ exponent width

pub begin : (width : ℕ) → Searching width 0 1
unfolding exponent
begin width = record { small = omega arith; doubled = refl; same = refl }

module _ {width n power : ℕ} (s : Searching width n power) where
  pub found : n < 9 → power ≡ width → Some n ≡ exponent width
  found h e =
      let f : 9 - n ≡ suc (8 - n) = omega arith in
      sym (from_here (8 - n) n width (sym s.doubled ∙ e)) ∙ ap (λ k. exponent_from k n width) (sym f) ∙ s.same

  pub again : n < 9 → (power ≡ width → ⊥) → Searching width (n + 1) (power * 2)
  again h d =
      let f : 9 - n ≡ suc (9 - (n + 1)) = omega arith in
      record {
        small = omega arith;
        doubled = rw (add-one n, pow-suc, s.doubled) refl;
        same = sym (from_next (9 - (n + 1)) n width (λ e. d (s.doubled ∙ e))) ∙ ap (λ k. exponent_from k n width) (sym f) ∙ s.same;
      }

  pub none : 9 ≤ n → None ≡ exponent width
  unfolding exponent_from
  none h =
      let f : 9 - n ≡ 0 = omega arith in
      ap (λ k. exponent_from k n width) (sym f) ∙ s.same

  pub fits : n < 9 → power ≤ 256
  fits h =
      let m : 2 ^ n ≤ 2 ^ 8 = pow2_mono {i = n} {j = 8} (omega arith) in
      omega (arith, m, s.doubled)
