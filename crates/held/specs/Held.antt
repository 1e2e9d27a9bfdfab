-- The cycles that an owner, an end and a corner list hold, read by the stretch of each cycle.
use Rattle.std.specs.Prelude.{◌≡◌, List, [], ◌∷◌, map, length, drop}
use Rattle.std.proofs.Math.Path.{refl, ap}
use Rattle.std.proofs.Common.{◌∙◌}
use Rattle.std.proofs.Math.Bool.{true}
use Prim.Native.Nat.{ℕ, zero, suc, ◌+◌, ◌-◌, ◌≤◌, ◌<◌}
use native.Mathlib.Omega.{arith}
use Rattle.std.proofs.Math.Numerals.{add-one}
use Rattle.std.proofs.Math.ListN.{get_or, length-append}
use Rattle.sequences.specs.Over.{over, over_inside}
use Rattle.sequences.specs.Ranges.{range}
use Rattle.grid.specs.Listing.{Cycle, owners, ends, all_corners, points_at, corner_count}
use Rattle.grid.specs.Stretches.{begin_from, length-owners, length-ends, StretchIn, stretch_over}
use Rattle.stretches.specs.Stretch.{begin_of, end_of, holds, start_of, length_of, stretch_of, some_stretch}

-- "For each cycle the owner list holds its region", and its corners are the stretch of the corner list that the library hands back for
-- cycle k (document 01, "Outlines").
unfoldable pub cycle_held : List ℕ → List ℕ → List ℕ → ℕ → ℕ → Cycle
unfolding stretch_of
cycle_held os es cs count k = record { region = get_or os k 0; points = stretch_of cs es count k }

-- The cycles from k on, `left` of `count`.
unfoldable pub cycles_from : List ℕ → List ℕ → List ℕ → ℕ → ℕ → ℕ → List Cycle
unfolding cycle_held range
cycles_from os es cs count k left = map (cycle_held os es cs count) (range k left)

-- All of them.
unfoldable pub cycles_held : List ℕ → List ℕ → List ℕ → ℕ → List Cycle
unfolding cycles_from
cycles_held os es cs count = cycles_from os es cs count 0 count

module _ (os es cs : List ℕ) (count k : ℕ) where
  -- The cycles left, with the first of them taken off.
  pub cycle-next : k < count → cycles_from os es cs count k (count - k) ≡ cycle_held os es cs count k ∷ cycles_from os es cs count (k + 1) (count - (k + 1))
  unfolding cycles_from
  cycle-next h =
      let e : count - k ≡ suc (count - (k + 1)) = omega arith in
      rw (e, add-one k) refl

  pub cycles_end : count ≤ k → cycles_from os es cs count k (count - k) ≡ []
  unfolding cycles_from
  cycles_end h = let e : count - k ≡ 0 = omega arith in rw e refl

-- Lists that agree with a listing, entry by entry, hold it.
agreeing : (os es cs : List ℕ) (count k : ℕ) (l : List Cycle) → ((i : ℕ) → i < length l → get_or os (k + i) 0 ≡ get_or (owners l) i 0)
    → ((i : ℕ) → i < length l → stretch_of cs es count (k + i) ≡ points_at l i) → cycles_from os es cs count k (length l) ≡ l
unfolding cycles_from cycle_held owners points_at
agreeing os es cs count k [] same parts = refl
agreeing os es cs count k (c ∷ l) same parts =
    let z : k ≡ k + 0 = omega arith in
    let here : get_or os k 0 ≡ c.region = ap (λ (i : ℕ). get_or os i 0) z ∙ same 0 (omega arith) in
    let part : stretch_of cs es count k ≡ c.points = ap (stretch_of cs es count) z ∙ parts 0 (omega arith) in
    let next : (i : ℕ) → suc k + i ≡ k + suc i = λ i. omega arith in
    let rest : cycles_from os es cs count (suc k) (length l) ≡ l =
    agreeing os es cs count (suc k) l (λ i h. ap (λ (j : ℕ). get_or os j 0) (next i) ∙ same (suc i) (omega arith))
    (λ i h. ap (stretch_of cs es count) (next i) ∙ parts (suc i) (omega arith)) in
    λ i. record { region = here i; points = part i } ∷ rest i

-- Where cycle k begins, as the listing and as the library has it.
pub begins_alike : (es : List ℕ) (k : ℕ) → begin_of es k ≡ begin_from 0 es k
unfolding begin_of begin_from
begins_alike es zero = refl
begins_alike es (suc k) = refl

-- What a listing lays over the front of the three lists is read back.
module _ (l : List Cycle) (os es cs : List ℕ) where
  -- "the very stretch of the corner list that holds them" is exactly the corners of cycle k.
  pub stretch_is_cycle : (k : ℕ) → k < length l → stretch_of (over (all_corners l) cs) (over (ends l) es) (length l) k ≡ points_at l k
  unfolding stretch_of start_of length_of end_of corner_count over
  stretch_is_cycle k h =
      let s : StretchIn l k (over (ends l) es) (over (all_corners l) cs) = stretch_over l k h es cs in
      let b : begin_of (over (ends l) es) k ≡ begin_from 0 (over (ends l) es) k = begins_alike (over (ends l) es) k in
      let t : holds (length (over (all_corners l) cs)) (over (ends l) es) (length l) k ≡ true =
      some_stretch (length (over (all_corners l) cs)) (over (ends l) es) (length l) k h
      (omega (arith, length-append (ends l) (drop (length (ends l)) es), length-ends l)) (omega (arith, s.rises))
      (omega (arith, s.stays, length-append (all_corners l) (drop (length (all_corners l)) cs))) in
      rw (t, b) s.holds

  pub cycles_read_back : cycles_held (over (owners l) os) (over (ends l) es) (over (all_corners l) cs) (length l) ≡ l
  unfolding cycles_held
  cycles_read_back =
      agreeing (over (owners l) os) (over (ends l) es) (over (all_corners l) cs) (length l) 0 l
      (λ i h. let z : 0 + i ≡ i = omega arith in ap (λ (j : ℕ). get_or (over (owners l) os) j 0) z ∙ over_inside (owners l) os i (omega (arith, length-owners l)))
      (λ i h. let z : 0 + i ≡ i = omega arith in ap (stretch_of (over (all_corners l) cs) (over (ends l) es) (length l)) z ∙ stretch_is_cycle i h)
