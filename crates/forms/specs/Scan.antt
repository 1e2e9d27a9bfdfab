-- The test of cycle form, corner after corner: what is left to test from the place i on.
use Rattle.std.specs.List.{list_all}
use Rattle.std.specs.Prelude.{◌≡◌, refl, Bool, true, false, ◌&&◌, List, [], ◌∷◌, ℕ, ◌+◌, ◌%◌, ◌≤◌, ◌<◌, ltb, length, get_or, drop}
use Rattle.std.proofs.Common.{◌∙◌, add-one, arith, eq-eqb, le-leb, drop_of_length-le, drop-cons}
use Rattle.lattice.specs.Parity.{is_even, zero_even, even_next, even_not, even_yes}
use Rattle.lattice.specs.Directions.{x_of}
use Rattle.lattice.specs.CycleForm.{inside, all_inside, along, by_turns, steps, eastward, cycle_form}

pub inside_on : (cs : List ℕ) (i : ℕ) → i < length cs → inside (get_or cs i 0) ≡ true → all_inside (drop (i + 1) cs) ≡ all_inside (drop i cs)
unfolding all_inside
inside_on cs i l h = rw (add-one, drop-cons cs i 0, h, all_inside) refl

pub inside_off : (cs : List ℕ) (i : ℕ) → i < length cs → inside (get_or cs i 0) ≡ false → all_inside (drop i cs) ≡ false
unfolding all_inside
inside_off cs i l h = rw (drop-cons cs i 0, h, all_inside) refl

pub inside-done : (cs : List ℕ) (i : ℕ) → length cs ≤ i → all_inside (drop i cs) ≡ true
unfolding all_inside
inside-done cs i h = rw (drop_of_length-le cs h) refl

-- The steps from the corner at i on.
unfoldable pub steps_from : List ℕ → ℕ → Bool
steps_from cs i = by_turns (is_even i) (get_or cs i 0) (drop (i + 1) cs) (get_or cs 0 0)

pub steps_begin : (cs : List ℕ) → 0 < length cs → steps_from cs 0 ≡ steps cs
unfolding steps_from steps
steps_begin [] h = absurd (omega arith)
steps_begin (c ∷ cs) h = rw zero_even refl

pub steps_on : (cs : List ℕ) (i : ℕ) → i + 1 < length cs → along (is_even i) (get_or cs i 0) (get_or cs (i + 1) 0) ≡ true → steps_from cs (i + 1) ≡ steps_from cs i
unfolding steps_from by_turns
steps_on cs i l h = rw (drop-cons cs (i + 1) 0, h, by_turns, even_next, add-one (i + 1)) refl

pub steps_off : (cs : List ℕ) (i : ℕ) → i + 1 < length cs → along (is_even i) (get_or cs i 0) (get_or cs (i + 1) 0) ≡ false → steps_from cs i ≡ false
unfolding steps_from by_turns
steps_off cs i l h = rw (drop-cons cs (i + 1) 0, h, by_turns) refl

-- The closing step, at the last corner, goes along y.
pub steps_closing : (cs : List ℕ) (i : ℕ) → i + 1 ≡ length cs → i % 2 ≡ 1 → steps_from cs i ≡ along false (get_or cs i 0) (get_or cs 0 0)
unfolding steps_from by_turns
steps_closing cs i l h = rw (drop_of_length-le cs {i = i + 1} (omega arith), even_not i h) refl

pub steps_open : (cs : List ℕ) (i : ℕ) → i + 1 ≡ length cs → i % 2 ≡ 0 → steps_from cs i ≡ false
unfolding steps_from by_turns
steps_open cs i l h = rw (drop_of_length-le cs {i = i + 1} (omega arith), even_yes i h) refl

pub eastward_is : (cs : List ℕ) → 2 ≤ length cs → eastward cs ≡ ltb (x_of (get_or cs 0 0)) (x_of (get_or cs 1 0))
unfolding eastward
eastward_is [] h = absurd (omega arith)
eastward_is (c ∷ []) h = absurd (omega arith)
eastward_is (c ∷ d ∷ cs) h = refl

and_then : {x y : Bool} (b : Bool) → x ≡ y → (b && x) ≡ elim b [ true ↦ y | false ↦ false ]
and_then true e = e
and_then false e = refl

-- The test of all corners as a test of each.
pub all_inside_is : (cs : List ℕ) → list_all inside cs ≡ all_inside cs
unfolding all_inside
all_inside_is [] = refl
all_inside_is (c ∷ cs) = and_then (inside c) (all_inside_is cs)

-- The form of corners whose number fits.
pub counted_form : (cs : List ℕ) → length cs % 2 ≡ 0 → 4 ≤ length cs → length cs ≤ 262144 → cycle_form cs ≡ (all_inside cs && (eastward cs && steps cs))
unfolding cycle_form
counted_form cs even least most = simp (eq-eqb _ _ even, le-leb 4 (length cs) least, le-leb (length cs) 262144 most)

-- The form of corners whose number and coordinates fit.
pub within_form : (cs : List ℕ) → length cs % 2 ≡ 0 → 4 ≤ length cs → length cs ≤ 262144 → all_inside cs ≡ true
    → cycle_form cs ≡ (ltb (x_of (get_or cs 0 0)) (x_of (get_or cs 1 0)) && steps cs)
within_form cs even least most within = counted_form cs even least most ∙ rw (within, eastward_is cs (omega arith)) refl
