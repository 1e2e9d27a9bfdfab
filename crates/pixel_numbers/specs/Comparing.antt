-- The numbers that stand in the place of the parents compared with those of the map.
use Rattle.std.specs.Prelude.{◌≡◌, refl, ◌≢◌, ◌↔◌, true, false, List, ℕ, ◌+◌, ◌-◌, ◌*◌, ◌%◌, ◌^◌, ◌≤◌, ◌<◌, length, get_or}
use Rattle.std.proofs.Common.{sym, ap, ◌∙◌, subst, arith, ext_get_or}
use Rattle.std.proofs.lemmas.Bool.{false≢true}
use Rattle.std.proofs.Math.Decide.{ℕ_discrete}
use Rattle.location.specs.Levels.{pixels_of}
use Rattle.location.specs.Places.{place_of}
use Rattle.quadtree.specs.Raster.{place}
use Rattle.quadtree.specs.Orders.{place_in, place_worked_out}
use Rattle.steps.specs.Look.{mark_bit}
use Rattle.cycles.specs.Mapped.{nums_of, length-nums, nums_at}
use Rattle.pixel_numbers.specs.Parents.{parents_of, length-parents, parent_at, whole_is}

-- The work list begins with a map of numbers, without marks, and 4^n entries more follow.
pub record Numbered (n : ℕ) (work : List ℕ) : Type 0 where
  pub small : n ≤ 8
  pub some : (j : ℕ) → j < 4 ^ n → 0 < get_or work j 0
  pub bare : (j : ℕ) → j < 4 ^ n → get_or work j 0 < mark_bit
  pub room : 2 * 4 ^ n ≤ length work

-- The numbers of the pixels with codes below c are the same.
pub record SameBelow (n : ℕ) (work : List ℕ) (c : ℕ) : Type 0 where
  pub within : c ≤ 4 ^ n
  pub same : (d : ℕ) → d < c → get_or (parents_of n work) d 0 ≡ get_or (nums_of n work) d 0

pub begin : (n : ℕ) (work : List ℕ) → SameBelow n work 0
begin n work = record { within = omega arith; same = λ d h. absurd (omega arith) }

module _ {n : ℕ} {work : List ℕ} (g : Numbered n work) where
  pub finish : {c : ℕ} → SameBelow n work c → 4 ^ n ≤ c → (true ≡ true) ↔ (parents_of n work ≡ nums_of n work)
  finish s h = (
    λ e.
        ext_get_or 0 (parents_of n work) (nums_of n work) (length-parents n work g.room ∙ sym (length-nums n work)) (λ i l.
        s.same i (omega (arith, length-parents n work g.room))),
    λ e. refl,
  )

  -- The entry of the pixel c, at the place i of the map, and that in the place of its parent.
  module _ {c i whole : ℕ} (all : whole ≡ pixels_of n) (inside : c < whole) (place_is : i ≡ place_of n c) where
    size : whole ≡ 4 ^ n
    size = whole_is g.small all

    here : i ≡ place n c
    here = place_is ∙ place_worked_out n c (omega (arith, g.small)) (omega (arith, size))

    pub place_inside : i < 4 ^ n
    place_inside = omega (arith, here, place_in n c)

    pub some_number : 0 < get_or work i 0
    some_number = g.some i place_inside

    number : get_or work i 0 - 1 ≡ get_or (nums_of n work) c 0
    number =
        let e : get_or work i 0 % mark_bit ≡ get_or work i 0 = omega (arith, g.bare i place_inside) in
        ap (λ (v : ℕ). v - 1) (sym e ∙ ap (λ (j : ℕ). get_or work j 0 % mark_bit) here) ∙ sym (nums_at n work c (omega (arith, size)))

    root-number : get_or work (whole + c) 0 ≡ get_or (parents_of n work) c 0
    root-number = ap (λ (w : ℕ). get_or work (w + c) 0) size ∙ sym (parent_at n work c (omega (arith, size)))

    pub again : SameBelow n work c → get_or work (whole + c) 0 ≡ get_or work i 0 - 1 → SameBelow n work (c + 1)
    again s e = record { within = omega (arith, size); same = λ d h. pick d h (ℕ_discrete d c) }
      where
        pick : (d : ℕ) → d < c + 1 → Dec (d ≡ c) → get_or (parents_of n work) d 0 ≡ get_or (nums_of n work) d 0
        pick d h (yes f) = subst (λ (k : ℕ). get_or (parents_of n work) k 0 ≡ get_or (nums_of n work) k 0) (sym f) (sym root-number ∙ e ∙ number)
        pick d h (no f) = s.same d (omega arith)

    pub differ : get_or work (whole + c) 0 ≢ get_or work i 0 - 1 → (false ≡ true) ↔ (parents_of n work ≡ nums_of n work)
    differ f = (λ e. absurd (false≢true e), λ e. absurd (f (root-number ∙ ap (λ (l : List ℕ). get_or l c 0) e ∙ sym number)))
