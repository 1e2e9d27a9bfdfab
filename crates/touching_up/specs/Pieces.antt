-- The pieces of a block: the pixel that is repainted is one of its own.
use Rattle.std.specs.Prelude.{◌≡◌, ◌≢◌, Bool, cond, ℕ, ◌+◌, ◌≤◌, ◌<◌, min, eqb, ltb}
use Rattle.std.proofs.Common.{ap, ◌∙◌, arith, eq-eqb, ne_eqb, lt-ltb, le-ltb}
use Rattle.std.proofs.Math.Decide.{ℕ_discrete, dec_lt}

-- Where the piece ends that begins at the code `from`, in a block that ends at `ending`: the pixel c is a piece of its own.
unfoldable pub piece_end : ℕ → ℕ → ℕ → ℕ
piece_end from c ending = cond (ltb from c) (min c ending) (cond (ltb c from) ending (from + 1))

-- Its colour: that of its block, or that of the pixel.
unfoldable pub piece_colour : ℕ → ℕ → ℕ → ℕ → ℕ
piece_colour from c old v = cond (eqb from c) v old

pub end_before_pixel : (from c ending : ℕ) → from < c → piece_end from c ending ≡ min c ending
unfolding piece_end
end_before_pixel from c ending l = ap (λ (t : Bool). cond t (min c ending) (cond (ltb c from) ending (from + 1))) (lt-ltb from c l)

pub end_after_pixel : (from c ending : ℕ) → c < from → piece_end from c ending ≡ ending
unfolding piece_end
end_after_pixel from c ending l =
    ap (λ (t : Bool). cond t (min c ending) (cond (ltb c from) ending (from + 1))) (le-ltb from c (omega arith))
    ∙ ap (λ (t : Bool). cond t ending (from + 1)) (lt-ltb c from l)

pub end_of_pixel : (from c ending : ℕ) → from ≡ c → piece_end from c ending ≡ from + 1
unfolding piece_end
end_of_pixel from c ending e =
    ap (λ (t : Bool). cond t (min c ending) (cond (ltb c from) ending (from + 1))) (le-ltb from c (omega arith))
    ∙ ap (λ (t : Bool). cond t ending (from + 1)) (le-ltb c from (omega arith))

pub colour_of_pixel : (from c old v : ℕ) → from ≡ c → piece_colour from c old v ≡ v
unfolding piece_colour
colour_of_pixel from c old v e = ap (λ (t : Bool). cond t v old) (eq-eqb from c e)

pub colour_of_block : (from c old v : ℕ) → from ≢ c → piece_colour from c old v ≡ old
unfolding piece_colour
colour_of_block from c old v d = ap (λ (t : Bool). cond t v old) (ne_eqb from c d)

-- The piece has pixels, and does not pass the block's end. The pixel c is in it alone or not at all.
pub record Parted (from c ending done : ℕ) : Type 0 where
  pub some : from < done
  pub fits : done ≤ ending
  pub alone : from ≡ c → done ≡ from + 1
  pub without : from ≢ c → (k : ℕ) → from ≤ k → k < done → k ≢ c

pub parted : (from c ending : ℕ) → from < ending → Parted from c ending (piece_end from c ending)
parted from c ending h = pick (ℕ_discrete from c) (dec_lt from c)
  where
    pick : Dec (from ≡ c) → Dec (from < c) → Parted from c ending (piece_end from c ending)
    pick (yes e) l =
        let done = end_of_pixel from c ending e in
        record { some = omega (arith, done); fits = omega (arith, done); alone = λ f. done; without = λ d k low high. absurd (d e) }
    pick (no d) (yes l) =
        let done = end_before_pixel from c ending l in
        record { some = omega (arith, done); fits = omega (arith, done); alone = λ f. absurd (d f); without = λ f k low high g. omega (arith, done) }
    pick (no d) (no l) =
        let done = end_after_pixel from c ending (omega arith) in
        record { some = omega (arith, done); fits = omega (arith, done); alone = λ f. absurd (d f); without = λ f k low high g. omega arith }
