-- Lists and counts that agree with each other: then the cycles they hold have the given owners, ends and corners.
use Rattle.std.specs.Prelude.{◌≡◌, Bool, cond}
use Rattle.std.proofs.Math.Path.{refl, sym, ap, ap₂}
use Rattle.std.proofs.Common.{◌∙◌, subst, subst₂, length-take, length-drop, drop-cons, take-add, drop-drop}
use mathlib.Core.List.{List, [], ◌∷◌, ◌++◌, map}
use Prim.Native.Nat.{ℕ, zero, suc, ◌+◌, ◌-◌, ◌≤◌, ◌<◌}
use native.Mathlib.Omega.{arith}
use Rattle.std.proofs.Math.ListN.{length, get_or, take, drop, length-map}
use Rattle.std.proofs.Math.Seq.{take-length}
use Rattle.sequences.specs.Ranges.{range, length-range}
use Rattle.components.specs.Numbers.{numbers, regions}
use Rattle.grid.specs.Listing.{Cycle, owners, ends_from, ends, all_corners, points_at, corner_count}
use Rattle.grid.specs.Stretches.{length-owners, length-ends, last_end, stretch}
use Rattle.links.specs.Image.{image_outlines}
use Rattle.stretches.specs.Stretch.{begin_of, end_of, start_of, length_of, stretch_of, some_stretch}
use Rattle.held.specs.Held.{cycle_held, cycles_from, cycles_held, begins_alike}
use Rattle.given_outlines.specs.Given.{Outlines, HasOutlines, coloured, cycles_in, cycles_of}

-- "Lists .. that don't agree with each other have no such image either": they agree where there is an owner for each end, and the ends rise
-- from 0 to the number of corners.
pub record Agreeing (os es cs : List ℕ) : Type 0 where
  pub an_owner_each : length os ≡ length es
  pub rising : (k : ℕ) → k < length es → begin_of es k ≤ get_or es k 0
  pub last : begin_of es (length es) ≡ length cs

-- ---- the cycles read from a place on

owners_from : (f : ℕ → Cycle) (os : List ℕ) → ((k : ℕ) → (f k).region ≡ get_or os k 0) → (j a : ℕ) → a + j ≤ length os
    → owners (map f (range a j)) ≡ take j (drop a os)
unfolding owners range
owners_from f os same zero a h = refl
owners_from f os same (suc j) a h =
    ap₂ {A = ℕ} {B = List ℕ} ◌∷◌ (same a) (owners_from f os same j (suc a) (omega arith))
    ∙ ap (take (suc j)) (sym (drop-cons os a 0 (omega arith)))

begin_next : (es : List ℕ) (k : ℕ) → begin_of es (suc k) ≡ get_or es k 0
unfolding begin_of
begin_next es k = refl

begins_rise : (es : List ℕ) (count : ℕ) → ((k : ℕ) → k < count → begin_of es k ≤ get_or es k 0) → (a j : ℕ) → a + j ≤ count → begin_of es a ≤ begin_of es (a + j)
begins_rise es count rise a zero h = let e : begin_of es a ≡ begin_of es (a + 0) = ap (begin_of es) (omega arith) in omega arith
begins_rise es count rise a (suc j) h =
    let e : begin_of es (suc (a + j)) ≡ begin_of es (a + suc j) = ap (begin_of es) (omega arith) in
    omega (arith, begins_rise es count rise a j (omega arith), rise (a + j) (omega arith), begin_next es (a + j))

module _ (f : ℕ → Cycle) (es cs : List ℕ) (count : ℕ) (fits : count ≤ length es) (rise : (k : ℕ) → k < count → begin_of es k ≤ get_or es k 0)
    (points : (k : ℕ) → k < count → (f k).points ≡ take (get_or es k 0 - begin_of es k) (drop (begin_of es k) cs))
    (room : begin_of es count ≤ length cs) where
  below_room : (k : ℕ) → k < count → get_or es k 0 ≤ length cs
  below_room k h =
      let e : suc k + (count - suc k) ≡ count = omega arith in
      omega (arith, begins_rise es count rise (suc k) (count - suc k) (omega arith), ap (begin_of es) e, begin_next es k)

  size : (k : ℕ) → k < count → length (f k).points ≡ get_or es k 0 - begin_of es k
  size k h =
      ap (λ (l : List ℕ). length l) (points k h)
      ∙ omega (arith, length-take (get_or es k 0 - begin_of es k) (drop (begin_of es k) cs), length-drop (begin_of es k) cs, below_room k h, rise k h)

  ends_from_lem : (j a b : ℕ) → a + j ≤ count → b ≡ begin_of es a → ends_from b (map f (range a j)) ≡ take j (drop a es)
  unfolding ends_from range
  ends_from_lem zero a b h e = refl
  ends_from_lem (suc j) a b h e =
      let here : b + length (f a).points ≡ get_or es a 0 = omega (arith, size a (omega arith), rise a (omega arith)) in
      ap₂ {A = ℕ} {B = List ℕ} ◌∷◌ here (ends_from_lem j (suc a) (b + length (f a).points) (omega arith) (here ∙ sym (begin_next es a)))
      ∙ ap (take (suc j)) (sym (drop-cons es a 0 (omega arith)))

  corners_from_lem : (j a : ℕ) → a + j ≤ count → all_corners (map f (range a j)) ≡ take (begin_of es (a + j) - begin_of es a) (drop (begin_of es a) cs)
  unfolding all_corners range
  corners_from_lem zero a h =
      let e : begin_of es (a + 0) ≡ begin_of es a = ap (begin_of es) (omega arith) in
      let z : 0 ≡ begin_of es (a + 0) - begin_of es a = omega arith in
      ap (λ (i : ℕ). take i (drop (begin_of es a) cs)) z
  corners_from_lem (suc j) a h =
      let b : ℕ = begin_of es a in
      let c : ℕ = get_or es a 0 in
      let e : begin_of es (suc a + j) ≡ begin_of es (a + suc j) = ap (begin_of es) (omega arith) in
      let up : b ≤ c = rise a (omega arith) in
      let on : c ≤ begin_of es (suc a + j) = omega (arith, begins_rise es count rise (suc a) j (omega arith), begin_next es a) in
      let sum : (c - b) + (begin_of es (suc a + j) - c) ≡ begin_of es (a + suc j) - b = omega arith in
      let there : b + (c - b) ≡ c = omega arith in
      ap₂ {A = List ℕ} {B = List ℕ} ◌++◌ (points a (omega arith)) (corners_from_lem j (suc a) (omega arith))
      ∙ ap (λ (t : ℕ). take (c - b) (drop b cs) ++ take (begin_of es (suc a + j) - t) (drop t cs)) (begin_next es a)
      ∙ ap (λ (l : List ℕ). take (c - b) (drop b cs) ++ take (begin_of es (suc a + j) - c) l) (sym (drop-drop (c - b) b cs ∙ ap (λ (i : ℕ). drop i cs) there))
      ∙ sym (take-add (c - b) (begin_of es (suc a + j) - c) (drop b cs))
      ∙ ap (λ (i : ℕ). take i (drop b cs)) sum

-- ---- the lists of a listing agree

no_corners : (l : List Cycle) → length l ≡ 0 → length (all_corners l) ≡ 0
unfolding all_corners
no_corners [] h = refl
no_corners (x ∷ l) h = absurd (omega arith)

pub listing_agrees : (l : List Cycle) → Agreeing (owners l) (ends l) (all_corners l)
unfolding begin_of corner_count
listing_agrees l = record {
  an_owner_each = length-owners l ∙ sym (length-ends l);
  rising = λ k h. omega (arith, (stretch l k (omega (arith, length-ends l))).rises, begins_alike (ends l) k);
  last = at_last (length (ends l)) (length-ends l);
}
  where
    at_last : (k : ℕ) → k ≡ length l → begin_of (ends l) k ≡ length (all_corners l)
    at_last zero h = sym (no_corners l (sym h))
    at_last (suc k) h = last_end l k h

points_of : (f : ℕ → Cycle) (j a k : ℕ) → k < j → points_at (map f (range a j)) k ≡ (f (a + k)).points
unfolding points_at range
points_of f zero a k h = absurd (omega arith)
points_of f (suc j) a zero h = let e : a ≡ a + 0 = omega arith in ap (λ i. (f i).points) e
points_of f (suc j) a (suc k) h = let e : suc a + k ≡ a + suc k = omega arith in points_of f j (suc a) k (omega arith) ∙ ap (λ i. (f i).points) e

-- ---- the cycles that lists hold which agree

module _ {os es cs : List ℕ} (agree : Agreeing os es cs) where
  held : ℕ → Cycle
  held = cycle_held os es cs (length es)

  end_fits : (k : ℕ) → k < length es → get_or es k 0 ≤ length cs
  end_fits k h =
      let e : suc k + (length es - suc k) ≡ length es = omega arith in
      omega (
        arith,
        agree.last,
        begins_rise es (length es) agree.rising (suc k) (length es - suc k) (omega arith),
        ap (begin_of es) e,
        begin_next es k,
      )

  points_held : (k : ℕ) → k < length es → (held k).points ≡ take (get_or es k 0 - begin_of es k) (drop (begin_of es k) cs)
  unfolding held cycle_held stretch_of start_of length_of end_of
  points_held k h =
      ap (λ (t : Bool). take (cond t (get_or es k 0 - begin_of es k) 0) (drop (cond t (begin_of es k) 0) cs))
      (some_stretch (length cs) es (length es) k h h (agree.rising k h) (end_fits k h))

  -- How many there are, and where the cycle k stands: between the end of the one before and its own.
  pub length-held : length (cycles_in os es cs) ≡ length es
  unfolding cycles_in cycles_held cycles_from
  length-held = length-map (range 0 (length es)) (cycle_held os es cs (length es)) ∙ length-range 0 (length es)

  pub record PartHeld (k : ℕ) : Type 0 where
    pub rises : begin_of es k ≤ get_or es k 0
    pub fits : get_or es k 0 ≤ length cs
    pub part : points_at (cycles_in os es cs) k ≡ take (get_or es k 0 - begin_of es k) (drop (begin_of es k) cs)
    pub its_owner : get_or (owners (cycles_in os es cs)) k 0 ≡ get_or os k 0

  pub owners-held : owners (cycles_in os es cs) ≡ os
  unfolding cycles_in cycles_held cycles_from held cycle_held
  owners-held =
      owners_from held os (λ k. refl) (length es) 0 (omega (arith, agree.an_owner_each))
      ∙ ap (λ k. take k os) (sym agree.an_owner_each) ∙ take-length os

  pub ends_held : ends (cycles_in os es cs) ≡ es
  unfolding cycles_in cycles_held cycles_from held ends begin_of
  ends_held =
      ends_from_lem held es cs (length es) (omega arith) agree.rising points_held (omega (arith, agree.last)) (length es) 0 0 (omega arith) refl
      ∙ take-length es

  pub corners-held : all_corners (cycles_in os es cs) ≡ cs
  unfolding cycles_in cycles_held cycles_from held begin_of
  corners-held =
      let e : 0 + length es ≡ length es = omega arith in
      let s : begin_of es (0 + length es) - 0 ≡ length cs = omega (arith, ap (begin_of es) e, agree.last) in
      corners_from_lem held es cs (length es) (omega arith) agree.rising points_held (omega (arith, agree.last)) (length es) 0 (omega arith)
      ∙ ap (λ (i : ℕ). take i cs) s
      ∙ take-length cs

  at_place : (k : ℕ) → k < length es → points_at (cycles_in os es cs) k ≡ (held k).points
  unfolding cycles_in cycles_held cycles_from held
  at_place k h = let e : 0 + k ≡ k = omega arith in points_of held (length es) 0 k h ∙ ap (λ i. (held i).points) e

  pub part_held : (k : ℕ) → k < length es → PartHeld k
  part_held k h = record {
    rises = agree.rising k h;
    fits = end_fits k h;
    part = at_place k h ∙ points_held k h;
    its_owner = ap (λ (l : List ℕ). get_or l k 0) owners-held;
  }

-- ---- an image has outlines exactly where the lists agree and the cycles that they hold are those of the image

module _ {n : ℕ} {o : Outlines} {px : List ℕ} where
  pub lists_agree : HasOutlines n o px → Agreeing o.owner_list o.end_list o.corner_list
  lists_agree has =
      subst (Agreeing o.owner_list o.end_list) has.corners_are
      (subst₂ (λ os es. Agreeing os es (all_corners (image_outlines n px))) has.owners_are has.ends_are (listing_agrees (image_outlines n px)))

  pub cycles_suffice : Agreeing o.owner_list o.end_list o.corner_list → image_outlines n px ≡ cycles_of o → regions n px ≡ length o.colour_list
      → px ≡ coloured o.colour_list (numbers n px) → HasOutlines n o px
  cycles_suffice agree e count each = record {
    owners_are = ap owners e ∙ owners-held agree;
    ends_are = ap ends e ∙ ends_held agree;
    corners_are = ap all_corners e ∙ corners-held agree;
    a_colour_each_lem = count;
    colours_are = each;
  }
