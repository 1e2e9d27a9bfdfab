-- "by region number, then by the code of that start pixel" (document 01, "Outlines") as one number.
use Rattle.std.specs.Prelude.{◌≡◌, refl, ◌↔◌, List, ℕ, zero, suc, ◌+◌, ◌*◌, ◌≤◌, ◌<◌, get_or}
use Rattle.std.proofs.Common.{inl, inr, arith}
use Rattle.std.proofs.Math.Decide.{ℕ_discrete}
use Rattle.sequences.specs.Powers.{pow4_mono}
use Rattle.interleaving.specs.Codes.{code}
use Rattle.interleaving.specs.Interleaving.{code_below}
use Rattle.lattice.specs.Directions.{x_of, y_of}
use Rattle.grid.specs.Listing.{Cycle, owners, points_at}
use Rattle.grid.specs.Keeping.{Before}
use Rattle.given_outlines.specs.Starts.{code_at}
use Rattle.given_outlines.specs.CycleByCycle.{start_told, FromItsStart}

-- The rank of the cycle of the region `owner` that starts at the pixel with the code c.
unfoldable pub rank : ℕ → ℕ → ℕ
rank owner c = 65536 * owner + c

-- The rank of the cycle k of a list.
unfoldable pub rank_at : ℕ → List Cycle → ℕ → ℕ
unfolding rank
rank_at n l k = rank (get_or (owners l) k 0) (start_told n (points_at l k))

-- The least rank that the cycle k may have: any for the first, 1 more than that of the cycle before for the others.
unfoldable pub least_rank : ℕ → List Cycle → ℕ → ℕ
unfolding rank_at
least_rank n l zero = 0
least_rank n l (suc i) = rank_at n l i + 1

pub least_first : (n : ℕ) (l : List Cycle) → least_rank n l 0 ≡ 0
unfolding least_rank
least_first n l = refl

pub least_next : (n : ℕ) (l : List Cycle) (i : ℕ) → least_rank n l (suc i) ≡ rank_at n l i + 1
unfolding least_rank
least_next n l i = refl

-- A rank takes 48 binary digits.
pub rank_low : (owner x y : ℕ) → owner < 4294967296 → rank owner (code 8 x y) < 281474976710656
unfolding rank
rank_low owner x y h = omega (arith, code_below 8 x y)

code_low : (n : ℕ) → n ≤ 8 → (p : ℕ) → code_at n p < 65536
unfolding code_at
code_low n small p = omega (arith, code_below n (x_of p) (y_of p), pow4_mono small)

-- The ranks tell the order of two cycles from their starts.
pub in_order_ranks : {n : ℕ} {nums : List ℕ} → n ≤ 8 → (l : List Cycle) (i k : ℕ) → FromItsStart n nums (get_or (owners l) i 0) (points_at l i)
    → FromItsStart n nums (get_or (owners l) k 0) (points_at l k)
    → Before n nums (start_told n (points_at l i)) (start_told n (points_at l k)) ↔ (rank_at n l i < rank_at n l k)
unfolding rank_at
in_order_ranks {n} {nums} small l i k f g = (to, from)
  where
    a : ℕ
    a = start_told n (points_at l i)

    b : ℕ
    b = start_told n (points_at l k)

    to : Before n nums a b → 65536 * get_or (owners l) i 0 + a < 65536 * get_or (owners l) k 0 + b
    to (inl h) = omega (arith, f.its_owner, g.its_owner, code_low n small (get_or (points_at l i) 0 0))
    to (inr h) = omega (arith, f.its_owner, g.its_owner, h.0, h.1)

    from : 65536 * get_or (owners l) i 0 + a < 65536 * get_or (owners l) k 0 + b → Before n nums a b
    from h = pick (ℕ_discrete (get_or nums a 0) (get_or nums b 0))
      where
        pick : Dec (get_or nums a 0 ≡ get_or nums b 0) → Before n nums a b
        pick (yes e) = inr (e, omega (arith, f.its_owner, g.its_owner))
        pick (no e) = inl (omega (arith, f.its_owner, g.its_owner, code_low n small (get_or (points_at l k) 0 0)))
