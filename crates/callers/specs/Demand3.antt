-- Demand 3 where a caller stands: from the promise of an accepted tracing, what the lists at exit hold.
use Rattle.std.specs.Prelude.{◌≡◌, refl, ◌≢◌, ◌⊎◌, ◌↔◌, true, replicate, ℤ, ◌<ℤ◌}
use Rattle.std.proofs.Math.Path.{sym, ap, subst}
use Rattle.std.proofs.Common.{ap₂, ◌∙◌, arith}
use mathlib.Core.List.{List, []}
use Prim.Native.Nat.{ℕ, suc, ◌*◌, ◌^◌, ◌≤◌, ◌<◌}
use Rattle.std.proofs.Math.ListN.{length, get_or}
use Rattle.std.proofs.lemmas.List.{length-replicate, get_or-replicate}
use Rattle.std.proofs.Math.IntN.{pos}
use Rattle.std.specs.Int.Signed.{mag}
use Rattle.sequences.specs.Cases.{written_accepted, written_refused, count_accepted, count_refused}
use Rattle.sequences.specs.Over.{over, over_none, over_inside, over_beyond, over_inside_or, over_beyond_or}
use Rattle.sequences.specs.Ranges.{tabulate}
use Rattle.interleaving.specs.Codes.{code}
use Rattle.quadtree.specs.Blocks.{blocks, paint}
use Rattle.quadtree.specs.Number.{number}
use Rattle.quadtree.specs.Accepted.{Passes, number-zero}
use Rattle.components.specs.Numbers.{numbers, labels, regions}
use Rattle.components.specs.Numbered.{FirstOf}
use Rattle.components.proofs.Numbered.{number-below-regions, each_number_given, no_other_by_least_codes}
use Rattle.components.proofs.Labels.{length-labels}
use Rattle.components.specs.Walk.{block-count}
use Rattle.lattice.specs.Directions.{right_of, digit, head}
use Rattle.lattice.specs.Walks.{outline, corners}
use Rattle.lattice.specs.CycleForm.{cycle_form}
use Rattle.lattice.specs.Area.{area}
use Rattle.orbits.specs.Members.{In, Distinct, one_place}
use Rattle.orbits.specs.Orbits.{iter}
use Rattle.grid.specs.Map.{region_at}
use Rattle.grid.specs.Margins.{Margin}
use Rattle.grid.specs.Steps.{Edge, step}
use Rattle.grid.specs.Cycles.{cycle_from, north_side, cycle}
use Rattle.grid.specs.Listing.{start_codes, Cycle, owners, ends, all_corners, areas, points_at, cycle_count, corner_count}
use Rattle.grid.specs.Listed.{OnceIn, SidesOnce, OutlinesListed, listing-length, points_at_lem, outline_at, ring_at, each_side_once, pixel_side_once, all_outlines_listed}
use Rattle.grid.specs.Undoing.{back, step-edge}
use Rattle.grid.specs.Returning.{Ring, edge_returns, back-edge, step_back, step_injective, cycles_equal_or_apart}
use Rattle.grid.specs.Bounds.{cycles_fit, corner-count_fits, area_fits}
use Rattle.grid.specs.Forms.{listed_is_cycle_form}
use Rattle.grid.specs.Outer.{OuterAt, first_is_outer, region_has_first}
use Rattle.grid.specs.Sides.{side_at, beyond}
use Rattle.grid.specs.Starting.{margin}
use Rattle.grid.specs.Stretches.{length-owners, length-ends, length-areas, area_at, last_end}
use Rattle.grid.specs.Pinches.{meeting_turns_right}
use Rattle.winding.specs.Signs.{outer_above, others_below}
use Rattle.stretches.specs.Stretch.{stretch_of}
use Rattle.regions.specs.Promise.{Numbering, numbered}
use Rattle.regions.specs.Callers.{label_of_pixel, labels_by_least_codes}
use Rattle.tracing.specs.Tracing.{Lent, tracing_number, outlines_of, cycles_written, labels_left, zeros_left, regions_listed, Tracing, Needs, needs_met, none_short, short_unless_met}
use Rattle.tracing.specs.declared.Traced.{Traced}
use Rattle.held.specs.Held.{cycles_held, stretch_is_cycle, cycles_read_back}

-- The cycles that the lists at exit hold, up to the count: each owner, and for each cycle the stretch of the corner list.
abbrev pub held_at : Lent → Traced → List Cycle
held_at after r = cycles_held after.owner_list after.end_list after.corner_list r.cycles

-- The unit sides of the outline k, walked from its stretch of the corner list.
abbrev pub sides_at : Lent → Traced → ℕ → List ℕ
sides_at after r k = outline (stretch_of after.corner_list after.end_list r.cycles k)

-- The region numbers of the pixels, and the start pixels of all cycles in the order of the listing.
abbrev pub numbers_of : ℕ → List ℕ → List ℕ → List ℕ → List ℕ
numbers_of n cs ls ks = numbers n (paint (blocks cs ls ks))

abbrev pub starts_of : ℕ → List ℕ → List ℕ → List ℕ → List ℕ
starts_of n cs ls ks = start_codes n (numbers n (paint (blocks cs ls ks))) (regions n (paint (blocks cs ls ks)))

-- The rule of steps on the edges of the region that the map m has as r: a bijection, every edge comes again, and two cycles are equal or
-- have no edge in common.
pub record RuleOfSteps (m : ℕ → ℕ → ℕ) (r : ℕ) : Type 0 where
  pub stays : (e : ℕ) → Edge m r e → Edge m r (step m e)
  pub one_before : (a b : ℕ) → Edge m r a → Edge m r b → step m a ≡ step m b → a ≡ b
  pub some_before : (e : ℕ) → Edge m r e → (a : ℕ) × Edge m r a × (step m a ≡ e)
  pub comes_again : (e : ℕ) → Edge m r e → (k : ℕ) × (0 < k) × (iter (step m) k e ≡ e)
  pub equal_or_apart : (a b : ℕ) → Edge m r a → Edge m r b
      → ((c : ℕ) → In c (cycle_from m a) ↔ In c (cycle_from m b)) ⊎ ((c : ℕ) → In c (cycle_from m a) → In c (cycle_from m b) → ⊥)

-- "the edges the rule runs through from one edge until that edge comes again": after each side of an outline comes the side that the rule
-- of steps gives, and after the last the first.
pub record RunsThrough (m : ℕ → ℕ → ℕ) (sides : List ℕ) : Type 0 where
  pub next_side : (i : ℕ) → suc i < length sides → get_or sides (suc i) 0 ≡ step m (get_or sides i 0)
  pub comes_again : (i : ℕ) → suc i ≡ length sides → get_or sides 0 0 ≡ step m (get_or sides i 0)

ring_runs : {m : ℕ → ℕ → ℕ} {r e : ℕ} → Ring m r e → RunsThrough m (cycle_from m e)
unfolding iter
ring_runs {m} {r} {e} g = record {
  next_side = λ i l. next i g.size (subst (λ (z : ℕ). suc i < z) g.long l) g.at;
  comes_again = λ i l. g.at 0 g.returns.positive ∙ sym g.returns.back ∙ last i g.size (l ∙ g.long) g.at;
}
  where
    next : (i size : ℕ) → suc i < size → ((j : ℕ) → j < size → get_or (cycle_from m e) j 0 ≡ iter (step m) j e)
        → get_or (cycle_from m e) (suc i) 0 ≡ step m (get_or (cycle_from m e) i 0)
    next i size l at = let h : i < size = omega arith in at (suc i) l ∙ ap (step m) (sym (at i h))

    last : (i size : ℕ) → suc i ≡ size → ((j : ℕ) → j < size → get_or (cycle_from m e) j 0 ≡ iter (step m) j e)
        → iter (step m) size e ≡ step m (get_or (cycle_from m e) i 0)
    last i size l at = let h : i < size = omega arith in ap (λ (z : ℕ). iter (step m) z e) (sym l) ∙ ap (step m) (sym (at i h))

-- What an accepted tracing answers, and what it leaves in the lists, which were lent as `before` and are `after` now.
pub record AtExit (n : ℕ) (cs ls ks : List ℕ) (before after : Lent) (r : Traced) : Type 0 where
  -- "exactly the counts of regions, cycles and corners"
  pub region-count : r.regions ≡ regions n (paint (blocks cs ls ks))
  pub cycle-count : r.cycles ≡ length (starts_of n cs ls ks)
  pub corner-count : r.corners ≡ corner_count (held_at after r)
  pub last_end_is_count : (k : ℕ) → suc k ≡ r.cycles → get_or after.end_list k 0 ≡ r.corners
  -- the stated needs suffice
  pub few_cycles : r.cycles ≤ 4 ^ n
  pub few_corners : r.corners ≤ 4 * 4 ^ n
  -- the labels at exit give each pixel its region number
  pub numbers_by_labels : tabulate (4 ^ n) (label_of_pixel (blocks cs ls ks) after.label_list) ≡ numbers_of n cs ls ks
  -- "its owner, end and corner entries up to those counts equal those defined", so the lists hold the listing
  pub owners_listed : (k : ℕ) → k < r.cycles → get_or after.owner_list k 0 ≡ get_or (owners (outlines_of n cs ls ks)) k 0
  pub ends_listed : (k : ℕ) → k < r.cycles → get_or after.end_list k 0 ≡ get_or (ends (outlines_of n cs ls ks)) k 0
  pub corners_listed : (i : ℕ) → i < r.corners → get_or after.corner_list i 0 ≡ get_or (all_corners (outlines_of n cs ls ks)) i 0
  pub lists : held_at after r ≡ outlines_of n cs ls ks
  -- the rule of steps in each region
  pub rule : (v : ℕ) → RuleOfSteps (region_at n (numbers_of n cs ls ks)) (suc v)
  -- all closed outlines of the rule of steps, each once, in the fixed order
  pub outlines : OutlinesListed n (numbers_of n cs ls ks) (held_at after r) (starts_of n cs ls ks)
  -- each side between a region and what is not that region in exactly one of its outlines, once, and nothing else
  pub sides : SidesOnce (region_at n (numbers_of n cs ls ks)) (held_at after r)
  -- so for the side of a pixel beyond which lies another region or the outside
  pub pixel_sides : (x y d : ℕ) → x < 2 ^ n → y < 2 ^ n → d < 4
      → beyond (region_at n (numbers_of n cs ls ks)) x y d ≢ region_at n (numbers_of n cs ls ks) (suc x) (suc y)
      → OnceIn (held_at after r) (get_or (numbers_of n cs ls ks) (code n x y) 0) (side_at x y d)
  -- the stretch of cycle k is exactly the corners of the k-th cycle, from its start
  pub stretch : (k : ℕ) → k < r.cycles
      → stretch_of after.corner_list after.end_list r.cycles k ≡ corners (cycle n (numbers_of n cs ls ks) (get_or (starts_of n cs ls ks) k 0))
  -- its unit sides are the edges that the rule runs through from its start, in their order
  pub walked : (k : ℕ) → k < r.cycles → sides_at after r k ≡ cycle n (numbers_of n cs ls ks) (get_or (starts_of n cs ls ks) k 0)
  -- each of them is followed by the step of the rule
  pub stepwise : (k : ℕ) → k < r.cycles → RunsThrough (region_at n (numbers_of n cs ls ks)) (sides_at after r k)
  -- it is a cycle form
  pub cycle_form_lem : (k : ℕ) → k < r.cycles → cycle_form (stretch_of after.corner_list after.end_list r.cycles k) ≡ true
  -- the first cycle of a region is its outer one; every region has one
  pub outer : (k : ℕ) → k < r.cycles → ((j : ℕ) → j < k → get_or after.owner_list j 0 ≢ get_or after.owner_list k 0)
      → OuterAt n (numbers_of n cs ls ks) (held_at after r) k (get_or (starts_of n cs ls ks) k 0)
  pub each_region : (v : ℕ) → v < r.regions
      → (k : ℕ) × (k < r.cycles) × (get_or after.owner_list k 0 ≡ v) × ((j : ℕ) → j < k → get_or after.owner_list j 0 ≢ get_or after.owner_list k 0)
  -- "Each cycle gets a signed 32-bit area, the sum over its unit edges of x times the change of y" (document 02, request c): the entries up
  -- to the count are those defined, each the area of the sides walked from the cycle's stretch; 32 bits hold it
  pub areas_listed : (k : ℕ) → k < r.cycles → get_or after.area_list k (pos 0) ≡ get_or (areas (outlines_of n cs ls ks)) k (pos 0)
  pub area_of_stretch : (k : ℕ) → k < r.cycles → get_or after.area_list k (pos 0) ≡ area (sides_at after r k)
  pub area_within : (k : ℕ) → k < r.cycles → mag (get_or after.area_list k (pos 0)) < 2147483648
  -- "A region's first cycle has an area above zero and its other cycles have areas below zero" (document 02, request c)
  pub first_above : (k : ℕ) → k < r.cycles → ((j : ℕ) → j < k → get_or after.owner_list j 0 ≢ get_or after.owner_list k 0)
      → pos 0 <ℤ get_or after.area_list k (pos 0)
  pub others_below : (j k : ℕ) → j < k → k < r.cycles → get_or after.owner_list j 0 ≡ get_or after.owner_list k 0
      → get_or after.area_list k (pos 0) <ℤ pos 0
  -- an outline that meets itself at a point turns right there: the step after its side i does, which by `stepwise` is its next side
  pub meeting : (k i j : ℕ) → k < r.cycles → i < length (sides_at after r k) → j < length (sides_at after r k) → i ≢ j
      → head (get_or (sides_at after r k) i 0) ≡ head (get_or (sides_at after r k) j 0)
      → digit (step (region_at n (numbers_of n cs ls ks)) (get_or (sides_at after r k) i 0)) ≡ right_of (digit (get_or (sides_at after r k) i 0))
  -- "On acceptance the work list's first 2 times 4^n entries are 0, and entries beyond those a list needs for its answer are unchanged"
  pub work_cleared : (i : ℕ) → i < 2 * 4 ^ n → get_or after.work_list i 0 ≡ 0
  pub work_kept : (i : ℕ) → 2 * 4 ^ n ≤ i → get_or after.work_list i 0 ≡ get_or before.work_list i 0
  pub labels-kept : (i : ℕ) → length cs ≤ i → get_or after.label_list i 0 ≡ get_or before.label_list i 0
  pub owners-kept : (i : ℕ) → r.cycles ≤ i → get_or after.owner_list i 0 ≡ get_or before.owner_list i 0
  pub ends-kept : (i : ℕ) → r.cycles ≤ i → get_or after.end_list i 0 ≡ get_or before.end_list i 0
  pub corners-kept : (i : ℕ) → r.corners ≤ i → get_or after.corner_list i 0 ≡ get_or before.corner_list i 0
  pub areas-kept : (i : ℕ) → r.cycles ≤ i → get_or after.area_list i (pos 0) ≡ get_or before.area_list i (pos 0)

-- Lists lent to a tracing of so many blocks, "of at least the stated lengths" (demand 3).
pub record LongEnough (n count : ℕ) (lent : Lent) : Type 0 where
  pub for_labels : count ≤ length lent.label_list
  pub for_work : 2 * 4 ^ n ≤ length lent.work_list
  pub for_owners : 4 ^ n ≤ length lent.owner_list
  pub for_ends : 4 ^ n ≤ length lent.end_list
  pub for_corners : 4 * 4 ^ n ≤ length lent.corner_list
  pub for_areas : 4 ^ n ≤ length lent.area_list

pub needs_of : {n count : ℕ} {cs ls ks : List ℕ} {lent : Lent} → number n cs ls ks ≡ 0 → length cs ≤ count → LongEnough n count lent → Needs n cs ls ks lent
needs_of accepted few long = record {
  accepted = accepted;
  for_labels = omega (arith, few, long.for_labels);
  for_work = long.for_work;
  for_owners = long.for_owners;
  for_ends = long.for_ends;
  for_corners = long.for_corners;
  for_areas = long.for_areas;
}

module _ {n : ℕ} {cs ls ks : List ℕ} {before after : Lent} {r : Traced} (p : Tracing n cs ls ks before after r) where
  number_answered : r.number ≡ tracing_number n cs ls ks before
  number_answered = ap (λ (a : Traced). a.number) p.answer

  -- An accepted list, with lent lists of at least the stated lengths, is never refused, whatever stood in them before.
  pub not_refused : Needs n cs ls ks before → r.number ≡ 0
  not_refused m =
      number_answered ∙ sym (none_short n cs ls ks before m.accepted m.for_labels m.for_work m.for_owners m.for_ends m.for_corners m.for_areas)

  -- 8 comes last: where the check finds nothing, for any list shorter than its need, the area list among them.
  pub eight_comes_last : number n cs ls ks ≡ 0 → (Needs n cs ls ks before → ⊥) → r.number ≡ 8
  eight_comes_last accepted not_met = number_answered ∙ sym (short_unless_met n cs ls ks before accepted not_met)

  pub short_areas_refused : number n cs ls ks ≡ 0 → length before.area_list < 4 ^ n → r.number ≡ 8
  short_areas_refused accepted h = eight_comes_last accepted (λ m. omega (arith, m.for_areas))

  -- Nothing else is accepted.
  pub accepted_only : r.number ≡ 0 → Needs n cs ls ks before
  accepted_only ok = needs_met n cs ls ks before (sym number_answered ∙ ok)

  -- A refusal has counts 0 and leaves all lists.
  pub refusal_leaves_all : (r.number ≡ 0 → ⊥) → (r.regions ≡ 0) × (r.cycles ≡ 0) × (r.corners ≡ 0) × (after ≡ before)
  unfolding cycles_written labels_left zeros_left regions_listed cycle_count corner_count owners ends all_corners areas
  refusal_leaves_all h =
      let some : 0 < tracing_number n cs ls ks before = omega (arith, number_answered) in
      let no_cycles : cycles_written n cs ls ks before ≡ [] = written_refused (tracing_number n cs ls ks before) (outlines_of n cs ls ks) some in
      let same_labels : after.label_list ≡ before.label_list =
      p.in_labels ∙ ap (λ (l : List ℕ). over l before.label_list) (written_refused (tracing_number n cs ls ks before) (labels n (blocks cs ls ks)) some)
      ∙ over_none before.label_list in
      let same_work : after.work_list ≡ before.work_list =
      p.in_work ∙ ap (λ (l : List ℕ). over l before.work_list) (written_refused (tracing_number n cs ls ks before) (replicate (2 * 4 ^ n) 0) some)
      ∙ over_none before.work_list in
      let same_owners : after.owner_list ≡ before.owner_list =
      p.in_owners ∙ ap (λ (c : List Cycle). over (owners c) before.owner_list) no_cycles ∙ over_none before.owner_list in
      let same_ends : after.end_list ≡ before.end_list =
      p.in_ends ∙ ap (λ (c : List Cycle). over (ends c) before.end_list) no_cycles ∙ over_none before.end_list in
      let same_corners : after.corner_list ≡ before.corner_list =
      p.in_corners ∙ ap (λ (c : List Cycle). over (all_corners c) before.corner_list) no_cycles ∙ over_none before.corner_list in
      let same_areas : after.area_list ≡ before.area_list =
      p.in_areas ∙ ap (λ (c : List Cycle). over (areas c) before.area_list) no_cycles ∙ over_none before.area_list in (
        ap (λ (a : Traced). a.regions) p.answer ∙ count_refused (tracing_number n cs ls ks before) (regions n (paint (blocks cs ls ks))) some,
        ap (λ (a : Traced). a.cycles) p.answer ∙ ap cycle_count no_cycles,
        ap (λ (a : Traced). a.corners) p.answer ∙ ap corner_count no_cycles,
        λ i. record {
          label_list = same_labels i;
          work_list = same_work i;
          owner_list = same_owners i;
          end_list = same_ends i;
          corner_list = same_corners i;
          area_list = same_areas i;
        },
      )

  module _ (ok : r.number ≡ 0) where
    zero_number : tracing_number n cs ls ks before ≡ 0
    zero_number = sym number_answered ∙ ok

    met : Needs n cs ls ks before
    met = accepted_only ok

    passes : Passes n cs ls ks
    passes = number-zero n cs ls ks met.accepted

    pub small : n ≤ 8
    small = passes.small

    written : cycles_written n cs ls ks before ≡ outlines_of n cs ls ks
    unfolding cycles_written
    written = written_accepted (tracing_number n cs ls ks before) (outlines_of n cs ls ks) zero_number

    pub cycles_are : r.cycles ≡ length (outlines_of n cs ls ks)
    unfolding cycle_count
    cycles_are = ap (λ (a : Traced). a.cycles) p.answer ∙ ap (λ (c : List Cycle). length c) written

    corners_are : r.corners ≡ corner_count (outlines_of n cs ls ks)
    corners_are = ap (λ (a : Traced). a.corners) p.answer ∙ ap corner_count written

    pub owners_are : after.owner_list ≡ over (owners (outlines_of n cs ls ks)) before.owner_list
    owners_are = p.in_owners ∙ ap (λ (c : List Cycle). over (owners c) before.owner_list) written

    ends_are : after.end_list ≡ over (ends (outlines_of n cs ls ks)) before.end_list
    ends_are = p.in_ends ∙ ap (λ (c : List Cycle). over (ends c) before.end_list) written

    points_are : after.corner_list ≡ over (all_corners (outlines_of n cs ls ks)) before.corner_list
    points_are = p.in_corners ∙ ap (λ (c : List Cycle). over (all_corners c) before.corner_list) written

    pub areas_are : after.area_list ≡ over (areas (outlines_of n cs ls ks)) before.area_list
    areas_are = p.in_areas ∙ ap (λ (c : List Cycle). over (areas c) before.area_list) written

    labels_are : after.label_list ≡ over (labels n (blocks cs ls ks)) before.label_list
    unfolding labels_left
    labels_are = p.in_labels ∙ ap (λ (l : List ℕ). over l before.label_list) (written_accepted (tracing_number n cs ls ks before) (labels n (blocks cs ls ks)) zero_number)

    work_is : after.work_list ≡ over (replicate (2 * 4 ^ n) 0) before.work_list
    unfolding zeros_left
    work_is = p.in_work ∙ ap (λ (l : List ℕ). over l before.work_list) (written_accepted (tracing_number n cs ls ks before) (replicate (2 * 4 ^ n) 0) zero_number)

    regions_are : r.regions ≡ regions n (paint (blocks cs ls ks))
    unfolding regions_listed
    regions_are = ap (λ (a : Traced). a.regions) p.answer ∙ count_accepted (tracing_number n cs ls ks before) (regions n (paint (blocks cs ls ks))) zero_number

    -- What the tracing leaves is what the numbering promises.
    pub as_numbering : Numbering n cs ls ks before.label_list before.work_list after.label_list after.work_list (record { number = 0; regions = r.regions })
    as_numbering = numbered n cs ls ks before.label_list before.work_list met.accepted met.for_labels met.for_work labels_are work_is regions_are

    -- ---- the lists hold the listing

    cycles_few : length (outlines_of n cs ls ks) ≤ 4 ^ n
    unfolding outlines_of cycle_count
    cycles_few = cycles_fit n (numbers_of n cs ls ks) (regions n (paint (blocks cs ls ks)))

    corners_few : corner_count (outlines_of n cs ls ks) ≤ 4 * 4 ^ n
    unfolding outlines_of
    corners_few = corner-count_fits n (numbers_of n cs ls ks) (regions n (paint (blocks cs ls ks))) small

    pub lists_hold_the_listing : held_at after r ≡ outlines_of n cs ls ks
    lists_hold_the_listing =
        ap₂ (λ (os es : List ℕ). cycles_held os es after.corner_list r.cycles) owners_are ends_are
        ∙ ap₂ (λ (ps : List ℕ) (k : ℕ). cycles_held (over (owners (outlines_of n cs ls ks)) before.owner_list) (over (ends (outlines_of n cs ls ks)) before.end_list) ps k) points_are cycles_are
        ∙ cycles_read_back (outlines_of n cs ls ks) before.owner_list before.end_list before.corner_list

    -- The stretch of cycle k is the corners of the k-th cycle.
    stretch_is : (k : ℕ) → k < r.cycles → stretch_of after.corner_list after.end_list r.cycles k ≡ points_at (outlines_of n cs ls ks) k
    stretch_is k h =
        ap₂ (λ (ps es : List ℕ). stretch_of ps es r.cycles k) points_are ends_are
        ∙ ap (λ (c : ℕ). stretch_of (over (all_corners (outlines_of n cs ls ks)) before.corner_list) (over (ends (outlines_of n cs ls ks)) before.end_list) c k) cycles_are
        ∙ stretch_is_cycle (outlines_of n cs ls ks) before.owner_list before.end_list before.corner_list k
        (omega (arith, cycles_are))

    owner_is : (k : ℕ) → k < r.cycles → get_or after.owner_list k 0 ≡ get_or (owners (outlines_of n cs ls ks)) k 0
    owner_is k h =
        ap (λ (os : List ℕ). get_or os k 0) owners_are
        ∙ over_inside (owners (outlines_of n cs ls ks)) before.owner_list k (omega (arith, length-owners (outlines_of n cs ls ks), cycles_are))

    pub known : (c : ℕ) → c < 4 ^ n → get_or (numbers_of n cs ls ks) c 0 < regions n (paint (blocks cs ls ks))
    known c h = number-below-regions n (paint (blocks cs ls ks)) c h

    end_is : (k : ℕ) → k < r.cycles → get_or after.end_list k 0 ≡ get_or (ends (outlines_of n cs ls ks)) k 0
    end_is k h =
        ap (λ (es : List ℕ). get_or es k 0) ends_are
        ∙ over_inside (ends (outlines_of n cs ls ks)) before.end_list k (omega (arith, length-ends (outlines_of n cs ls ks), cycles_are))

    end_is_count : (k : ℕ) → suc k ≡ r.cycles → get_or after.end_list k 0 ≡ r.corners
    end_is_count k e = end_is k (omega (arith, e)) ∙ last_end (outlines_of n cs ls ks) k (e ∙ cycles_are) ∙ sym corners_are

    corner_is : (i : ℕ) → i < r.corners → get_or after.corner_list i 0 ≡ get_or (all_corners (outlines_of n cs ls ks)) i 0
    unfolding corner_count
    corner_is i h =
        ap (λ (ps : List ℕ). get_or ps i 0) points_are ∙ over_inside (all_corners (outlines_of n cs ls ks)) before.corner_list i (omega (arith, corners_are))

    area_is : (k : ℕ) → k < r.cycles → get_or after.area_list k (pos 0) ≡ get_or (areas (outlines_of n cs ls ks)) k (pos 0)
    area_is k h =
        ap (λ (zs : List ℤ). get_or zs k (pos 0)) areas_are
        ∙ over_inside_or (pos 0) (areas (outlines_of n cs ls ks)) before.area_list k (omega (arith, length-areas (outlines_of n cs ls ks), cycles_are))

    first_outer : (k : ℕ) → k < r.cycles → ((j : ℕ) → j < k → get_or after.owner_list j 0 ≢ get_or after.owner_list k 0)
        → OuterAt n (numbers_of n cs ls ks) (outlines_of n cs ls ks) k (get_or (starts_of n cs ls ks) k 0)
    unfolding outlines_of
    first_outer k h first =
        first_is_outer n (numbers_of n cs ls ks) (regions n (paint (blocks cs ls ks))) small k (omega (arith, cycles_are))
        (λ j i e. first j i (owner_is j (omega arith) ∙ e ∙ sym (owner_is k h)))

    region-first : (v : ℕ) → v < r.regions
        → (k : ℕ) × (k < r.cycles) × (get_or after.owner_list k 0 ≡ v) × ((j : ℕ) → j < k → get_or after.owner_list j 0 ≢ get_or after.owner_list k 0)
    unfolding outlines_of
    region-first v h =
        let g : FirstOf n (paint (blocks cs ls ks)) (numbers_of n cs ls ks) v = each_number_given n (paint (blocks cs ls ks)) v (omega (arith, regions_are)) in
        let w = region_has_first n (numbers_of n cs ls ks) (regions n (paint (blocks cs ls ks))) small g.pixel g.first.inside (known g.pixel g.first.inside) in
        let k : w.0 < r.cycles = omega (arith, w.1, cycles_are) in
        (w.0, k, owner_is w.0 k ∙ w.2 ∙ g.value, λ j i e. w.3 j i (sym (owner_is j (omega arith)) ∙ e ∙ owner_is w.0 k))

    -- The sides of the outline k are the edges that the rule runs through from its start.
    ring_of : (k : ℕ) → k < length (outlines_of n cs ls ks)
        → Ring (region_at n (numbers_of n cs ls ks)) (suc (get_or (numbers_of n cs ls ks) (get_or (starts_of n cs ls ks) k 0) 0)) (north_side n (get_or (starts_of n cs ls ks) k 0))
    unfolding outlines_of
    ring_of k h = ring_at n (numbers_of n cs ls ks) (regions n (paint (blocks cs ls ks))) small k h

    runs : (k : ℕ) → k < length (outlines_of n cs ls ks) → RunsThrough (region_at n (numbers_of n cs ls ks)) (cycle n (numbers_of n cs ls ks) (get_or (starts_of n cs ls ks) k 0))
    unfolding cycle
    runs k h = ring_runs (ring_of k h)

    meets : (k i j : ℕ) → k < length (outlines_of n cs ls ks) → (sides : List ℕ) → sides ≡ cycle n (numbers_of n cs ls ks) (get_or (starts_of n cs ls ks) k 0)
        → i < length sides → j < length sides → i ≢ j → head (get_or sides i 0) ≡ head (get_or sides j 0)
        → digit (step (region_at n (numbers_of n cs ls ks)) (get_or sides i 0)) ≡ right_of (digit (get_or sides i 0))
    unfolding cycle
    meets k i j h sides o a b d e =
        let nums : List ℕ = numbers_of n cs ls ks in
        let r : ℕ = suc (get_or nums (get_or (starts_of n cs ls ks) k 0) 0) in
        let g = ring_of k h in
        let distinct : Distinct sides = subst Distinct (sym o) g.once in
        let on : (x : ℕ) → x < length sides → Edge (region_at n nums) r (get_or sides x 0) =
        λ x y. g.edges (get_or sides x 0) (subst (In (get_or sides x 0)) o (x, y, refl)) in
        meeting_turns_right (region_at n nums) (margin n nums small) r (get_or sides i 0) (get_or sides j 0) (on i a) (on j b)
        (λ q. d (one_place sides distinct i j a b q)) e

    starts_long : length (outlines_of n cs ls ks) ≡ length (starts_of n cs ls ks)
    unfolding outlines_of
    starts_long = listing-length n (numbers_of n cs ls ks) (regions n (paint (blocks cs ls ks)))

    listed : OutlinesListed n (numbers_of n cs ls ks) (outlines_of n cs ls ks) (starts_of n cs ls ks)
    unfolding outlines_of
    listed = all_outlines_listed n (numbers_of n cs ls ks) (regions n (paint (blocks cs ls ks))) small known

    once : SidesOnce (region_at n (numbers_of n cs ls ks)) (outlines_of n cs ls ks)
    unfolding outlines_of
    once = each_side_once n (numbers_of n cs ls ks) (regions n (paint (blocks cs ls ks))) small known

    pixel_once : (x y d : ℕ) → x < 2 ^ n → y < 2 ^ n → d < 4
        → beyond (region_at n (numbers_of n cs ls ks)) x y d ≢ region_at n (numbers_of n cs ls ks) (suc x) (suc y)
        → OnceIn (outlines_of n cs ls ks) (get_or (numbers_of n cs ls ks) (code n x y) 0) (side_at x y d)
    unfolding outlines_of
    pixel_once = pixel_side_once n (numbers_of n cs ls ks) (regions n (paint (blocks cs ls ks))) small known

    points_are_corners : (k : ℕ) → k < length (outlines_of n cs ls ks) → points_at (outlines_of n cs ls ks) k ≡ corners (cycle n (numbers_of n cs ls ks) (get_or (starts_of n cs ls ks) k 0))
    unfolding outlines_of
    points_are_corners k h = points_at_lem n (numbers_of n cs ls ks) (regions n (paint (blocks cs ls ks))) k (omega (arith, starts_long))

    sides_are_cycle : (k : ℕ) → k < length (outlines_of n cs ls ks) → outline (points_at (outlines_of n cs ls ks) k) ≡ cycle n (numbers_of n cs ls ks) (get_or (starts_of n cs ls ks) k 0)
    unfolding outlines_of
    sides_are_cycle k h = outline_at n (numbers_of n cs ls ks) (regions n (paint (blocks cs ls ks))) small k h

    sides_walked : (k : ℕ) → k < r.cycles → sides_at after r k ≡ cycle n (numbers_of n cs ls ks) (get_or (starts_of n cs ls ks) k 0)
    sides_walked k h = ap outline (stretch_is k h) ∙ sides_are_cycle k (omega (arith, cycles_are))

    -- ---- areas

    area_of_sides : (k : ℕ) → k < r.cycles → get_or after.area_list k (pos 0) ≡ area (sides_at after r k)
    area_of_sides k h = area_is k h ∙ area_at (outlines_of n cs ls ks) k (omega (arith, cycles_are)) ∙ ap area (ap outline (sym (stretch_is k h)))

    within : (k : ℕ) → k < r.cycles → mag (get_or after.area_list k (pos 0)) < 2147483648
    unfolding outlines_of
    within k h =
        subst (λ (z : ℤ). mag z < 2147483648) (sym (area_is k h)) (area_fits n (numbers_of n cs ls ks) (regions n (paint (blocks cs ls ks))) small k (omega (arith, cycles_are)))

    above : (k : ℕ) → k < r.cycles → ((j : ℕ) → j < k → get_or after.owner_list j 0 ≢ get_or after.owner_list k 0) → pos 0 <ℤ get_or after.area_list k (pos 0)
    unfolding outlines_of
    above k h first =
        subst (λ (z : ℤ). pos 0 <ℤ z) (sym (area_is k h))
        (outer_above n (paint (blocks cs ls ks)) small k (omega (arith, cycles_are)) (λ j i e. first j i (owner_is j (omega arith) ∙ e ∙ sym (owner_is k h))))

    below : (j k : ℕ) → j < k → k < r.cycles → get_or after.owner_list j 0 ≡ get_or after.owner_list k 0 → get_or after.area_list k (pos 0) <ℤ pos 0
    unfolding outlines_of
    below j k i h e =
        subst (λ (z : ℤ). z <ℤ pos 0) (sym (area_is k h))
        (others_below n (paint (blocks cs ls ks)) small j k i (omega (arith, cycles_are)) (sym (owner_is j (omega arith)) ∙ e ∙ owner_is k h))

    form : (k : ℕ) → k < length (outlines_of n cs ls ks) → cycle_form (points_at (outlines_of n cs ls ks) k) ≡ true
    unfolding outlines_of
    form k h = listed_is_cycle_form n (numbers_of n cs ls ks) (regions n (paint (blocks cs ls ks))) small k h

    corner-length : (i : ℕ) → r.corners ≤ i → length (all_corners (outlines_of n cs ls ks)) ≤ i
    unfolding corner_count
    corner-length i h = omega (arith, corners_are)

    zeros_long : length {A = ℕ} (replicate (2 * 4 ^ n) 0) ≡ 2 * 4 ^ n
    zeros_long = length-replicate (2 * 4 ^ n) 0

    rule_of_steps : (v : ℕ) → RuleOfSteps (region_at n (numbers_of n cs ls ks)) (suc v)
    rule_of_steps v =
        let m : ℕ → ℕ → ℕ = region_at n (numbers_of n cs ls ks) in
        let g : Margin m = margin n (numbers_of n cs ls ks) small in
        record {
          stays = λ e h. step-edge m g (suc v) e h;
          one_before = λ a b h k e. step_injective m g (suc v) a b h k e;
          some_before = λ e h. (back m e, back-edge m g (suc v) e h, step_back m g (suc v) e h);
          comes_again = λ e h. let w = edge_returns m g (suc v) e h in (w.0, w.2.positive, w.2.back);
          equal_or_apart = λ a b h k. cycles_equal_or_apart m g (suc v) a b h k;
        }

    -- All of it.
    pub accepted_at_exit : AtExit n cs ls ks before after r
    accepted_at_exit = record {
      region-count = regions_are;
      cycle-count = cycles_are ∙ starts_long;
      corner-count = corners_are ∙ ap corner_count (sym lists_hold_the_listing);
      last_end_is_count = end_is_count;
      few_cycles = omega (arith, cycles_are, cycles_few);
      few_corners = omega (arith, corners_are, corners_few);
      numbers_by_labels =
          (no_other_by_least_codes n (paint (blocks cs ls ks)) (tabulate (4 ^ n) (label_of_pixel (blocks cs ls ks) after.label_list)) r.regions
          (labels_by_least_codes as_numbering refl)).0;
      owners_listed = owner_is;
      ends_listed = end_is;
      corners_listed = corner_is;
      lists = lists_hold_the_listing;
      rule = rule_of_steps;
      outlines = subst (λ (c : List Cycle). OutlinesListed n (numbers_of n cs ls ks) c (starts_of n cs ls ks)) (sym lists_hold_the_listing) listed;
      sides = subst (SidesOnce (region_at n (numbers_of n cs ls ks))) (sym lists_hold_the_listing) once;
      pixel_sides = λ x y d a b h other.
          subst (λ (c : List Cycle). OnceIn c (get_or (numbers_of n cs ls ks) (code n x y) 0) (side_at x y d)) (sym lists_hold_the_listing) (pixel_once x y d a b h other);
      stretch = λ k h. stretch_is k h ∙ points_are_corners k (omega (arith, cycles_are));
      walked = sides_walked;
      stepwise = λ k h. subst (RunsThrough (region_at n (numbers_of n cs ls ks))) (sym (sides_walked k h)) (runs k (omega (arith, cycles_are)));
      cycle_form_lem = λ k h. ap cycle_form (stretch_is k h) ∙ form k (omega (arith, cycles_are));
      outer = λ k h first. subst (λ (c : List Cycle). OuterAt n (numbers_of n cs ls ks) c k (get_or (starts_of n cs ls ks) k 0)) (sym lists_hold_the_listing) (first_outer k h first);
      each_region = region-first;
      areas_listed = area_is;
      area_of_stretch = area_of_sides;
      area_within = within;
      first_above = above;
      others_below = below;
      meeting = λ k i j h. meets k i j (omega (arith, cycles_are)) (sides_at after r k) (sides_walked k h);
      work_cleared = λ i h.
          ap (λ (w : List ℕ). get_or w i 0) work_is ∙ over_inside (replicate (2 * 4 ^ n) 0) before.work_list i (omega (arith, zeros_long)) ∙ get_or-replicate (2 * 4 ^ n) i 0 0 h;
      work_kept = λ i h. ap (λ (w : List ℕ). get_or w i 0) work_is ∙ over_beyond (replicate (2 * 4 ^ n) 0) before.work_list i (omega (arith, zeros_long));
      labels-kept = λ i h.
          ap (λ (w : List ℕ). get_or w i 0) labels_are
          ∙ over_beyond (labels n (blocks cs ls ks)) before.label_list i (omega (arith, length-labels n (blocks cs ls ks), block-count passes));
      owners-kept = λ i h.
          ap (λ (w : List ℕ). get_or w i 0) owners_are
          ∙ over_beyond (owners (outlines_of n cs ls ks)) before.owner_list i (omega (arith, length-owners (outlines_of n cs ls ks), cycles_are));
      ends-kept = λ i h.
          ap (λ (w : List ℕ). get_or w i 0) ends_are
          ∙ over_beyond (ends (outlines_of n cs ls ks)) before.end_list i (omega (arith, length-ends (outlines_of n cs ls ks), cycles_are));
      corners-kept = λ i h. ap (λ (w : List ℕ). get_or w i 0) points_are ∙ over_beyond (all_corners (outlines_of n cs ls ks)) before.corner_list i (corner-length i h);
      areas-kept = λ i h.
          ap (λ (zs : List ℤ). get_or zs i (pos 0)) areas_are
          ∙ over_beyond_or (pos 0) (areas (outlines_of n cs ls ks)) before.area_list i (omega (arith, length-areas (outlines_of n cs ls ks), cycles_are));
    }
