-- All outlines of a list of cycles stored, one after the other: what the place of each pixel holds then, and the loop.
use Rattle.std.specs.Prelude.{◌≡◌, refl, Bool, true, false, length, take}
use Rattle.std.proofs.Common.{sym, ap₂, ◌∙◌}
use Rattle.std.proofs.Math.Path.{ap, subst}
use Rattle.std.proofs.Math.Bool.{false≢true}
use mathlib.Core.List.{List, [], ◌∷◌}
use Prim.Native.Nat.{ℕ, zero, suc, ◌+◌, ◌-◌, ◌*◌, ◌≤◌, ◌<◌}
use native.Mathlib.Omega.{arith}
use Rattle.std.proofs.Math.ListN.{get_or, drop, drop_of_length-le}
use Rattle.sequences.specs.Cases.{first, when}
use Rattle.lattice.specs.Walks.{outline}
use Rattle.grid.specs.Listing.{Cycle, owners, points_at}
use Rattle.grid.specs.Sides.{side_at}
use Rattle.stretches.specs.Stretch.{begin_of}
use Rattle.steps.specs.Look.{Square}
use Rattle.given_outlines.specs.Given.{cycles_in}
use Rattle.given_outlines.specs.Agreeing.{Agreeing, PartHeld, part_held, length-held}
use Rattle.given_outlines.specs.Candidate.{owner_of, region_from}
use Rattle.orbits.specs.Finding.{member}
use Rattle.west_sides.specs.Northward.{stores, norths, Fits, Stored, length-stores, stored_by_edges}

-- All outlines of a list, each with 1 plus its owner.
unfoldable pub store_all : ℕ → List Cycle → List ℕ → List ℕ
unfolding stores outline
store_all side [] w = w
store_all side (c ∷ cs) w = store_all side cs (stores side (suc c.region) (outline c.points) w)

-- They can be stored: each owner is below the count of regions, and the edges of each outline can be stored with the units that the
-- outlines before it leave.
unfoldable pub AllFit : ℕ → ℕ → ℕ → List Cycle → Type 0
unfolding norths outline
AllFit side count units [] = Unit {0}
AllFit side count units (c ∷ cs) =
    (c.region < count) × Fits side units (outline c.points) × AllFit side count (units - norths (outline c.points)) cs

-- ---- what the place of a pixel holds then

first-first : (a b c : ℕ) → first (first a b) c ≡ first a (first b c)
unfolding first
first-first zero b c = refl
first-first (suc a) b c = refl

-- The owner of the pixel's west side, or else what stood there.
pub stored_by_all : (side : ℕ) → side ≤ 256 → (x y : ℕ) → x < side → y < side → (count units : ℕ) (l : List Cycle) (w : List ℕ)
    → side * side ≤ length w → AllFit side count units l
    → get_or (store_all side l w) (y * side + x) 0 ≡ first (owner_of l (side_at x y 1)) (get_or w (y * side + x) 0)
unfolding store_all AllFit owner_of first
stored_by_all side narrow x y a b count units [] w long fit = refl
stored_by_all side narrow x y a b count units (c ∷ cs) w long fit =
    let e : ℕ = side_at x y 1 in
    let es : List ℕ = outline c.points in
    stored_by_all side narrow x y a b count (units - norths es) cs (stores side (suc c.region) es w)
    (omega (arith, length-stores side (suc c.region) es w)) fit.2
    ∙ ap (first (owner_of cs e)) (stored_by_edges side narrow x y a b (suc c.region) (omega arith) es w long fit.1.inside)
    ∙ sym (first-first (owner_of cs e) (when (member e es) (suc c.region)) (get_or w (y * side + x) 0))

-- It is at most the count of regions.
first_at_most : (a b count : ℕ) → a ≤ count → b ≤ count → first a b ≤ count
unfolding first
first_at_most zero b count h k = k
first_at_most (suc a) b count h k = h

when_at_most : (t : Bool) (a count : ℕ) → a ≤ count → when t a ≤ count
unfolding when
when_at_most true a count h = h
when_at_most false a count h = omega arith

owner_at_most : (side count units : ℕ) (l : List Cycle) (e : ℕ) → AllFit side count units l → owner_of l e ≤ count
unfolding owner_of AllFit
owner_at_most side count units [] e fit = omega arith
owner_at_most side count units (c ∷ cs) e fit =
    first_at_most (owner_of cs e) (when (member e (outline c.points)) (suc c.region)) count
    (owner_at_most side count (units - norths (outline c.points)) cs e fit.2)
    (when_at_most (member e (outline c.points)) (suc c.region) count (omega (arith, fit.0)))

pub region_at_most : (side count units : ℕ) (l : List Cycle) (y x : ℕ) → AllFit side count units l → region_from l y x ≤ count
unfolding region_from
region_at_most side count units l y zero fit = owner_at_most side count units l (side_at 0 y 1) fit
region_at_most side count units l y (suc x) fit =
    first_at_most (owner_of l (side_at (suc x) y 1)) (region_from l y x) count
    (owner_at_most side count units l (side_at (suc x) y 1) fit) (region_at_most side count units l y x fit)

-- ---- the loop over the cycles

-- Lists that agree with each other, and a map with an entry for each pixel of an image that may have so many regions.
pub record Storable (side count : ℕ) (os es cs map : List ℕ) : Type 0 where
  pub square : Square side map
  pub agree : Agreeing os es cs
  pub few_regions : count ≤ 65536

-- Either all outlines are stored, or they can't be: then what the map holds is free.
pub record AllOutlinesStored (side count units : ℕ) (l : List Cycle) (w w' : List ℕ) (ok : Bool) : Type 0 where
  pub long : length w' ≡ length w
  pub done : ok ≡ true → AllFit side count units l × (w' ≡ store_all side l w)
  pub none : ok ≡ false → AllFit side count units l → ⊥

-- Before the cycle k, whose corners begin at `from`: to store the cycles from k on in w with the units left is as good as all cycles in w₀
-- with all units.
pub record NextCycle (side count units₀ : ℕ) (es : List ℕ) (l : List Cycle) (w₀ w : List ℕ) (units from k : ℕ) : Type 0 where
  pub begins : from ≡ begin_of es k
  pub long : length w ≡ length w₀
  pub stored : store_all side (drop k l) w ≡ store_all side l w₀
  pub enough : AllFit side count units (drop k l) → AllFit side count units₀ l
  pub needed : AllFit side count units₀ l → AllFit side count units (drop k l)

pub first-cycle : (side count units : ℕ) (es : List ℕ) (l : List Cycle) (w : List ℕ) → NextCycle side count units es l w w units 0 0
unfolding begin_of
first-cycle side count units es l w = record { begins = refl; long = refl; stored = refl; enough = λ f. f; needed = λ f. f }

cycle_at_lem : (l : List Cycle) (k : ℕ) → k < length l → drop k l ≡ (record { region = get_or (owners l) k 0; points = points_at l k }) ∷ drop (suc k) l
unfolding owners points_at
cycle_at_lem [] k h = absurd (omega arith)
cycle_at_lem (c ∷ cs) zero h = refl
cycle_at_lem (c ∷ cs) (suc k) h = cycle_at_lem cs k (omega arith)

module _ {side count units₀ units from k : ℕ} {os es cs w₀ w : List ℕ} (agree : Agreeing os es cs)
    (g : NextCycle side count units₀ es (cycles_in os es cs) w₀ w units from k) where
  abbrev l : List Cycle
  l = cycles_in os es cs

  pub all_cycles_stored : length es ≤ k → AllOutlinesStored side count units₀ l w₀ w true
  unfolding store_all AllFit
  all_cycles_stored h =
      let none : drop k l ≡ [] = drop_of_length-le l {i = k} (omega (arith, length-held agree)) in
      record {
        long = g.long;
        done = λ z. (
          g.enough (subst (AllFit side count units) (sym none) tt),
          ap (λ (cs : List Cycle). store_all side cs w) (sym none) ∙ g.stored,
        );
        none = λ z f. false≢true (sym z);
      }

  -- The owner and the end of the cycle k, read at its turn.
  module _ {owner end : ℕ} (turn : (k < length os) × (k < length es) × ((d : ℕ) → owner ≡ get_or os k d) × ((d : ℕ) → end ≡ get_or es k d)) where
    p : PartHeld agree k
    p = part_held agree k turn.1

    end_is : end ≡ get_or es k 0
    end_is = turn.3 0

    abbrev corners : List ℕ
    corners = take (end - from) (drop from cs)

    here : drop k l ≡ (record { region = owner; points = corners }) ∷ drop (suc k) l
    here =
        cycle_at_lem l k (omega (arith, length-held agree, turn.1))
        ∙ ap₂ (λ (o : ℕ) (ps : List ℕ). (record { region = o; points = ps }) ∷ drop (suc k) l) (p.its_owner ∙ sym (turn.2 0))
        (p.part ∙ ap₂ (λ (a b : ℕ). take (a - b) (drop b cs)) (sym end_is) (sym g.begins))

    -- The corners of the cycle k stand in the corner list.
    pub corners_stand : (from ≤ end) × (end ≤ length cs)
    corners_stand = (omega (arith, p.rises, g.begins, end_is), omega (arith, p.fits, end_is))

    fit_here : AllFit side count units₀ l
        → (owner < count) × Fits side units (outline corners) × AllFit side count (units - norths (outline corners)) (drop (suc k) l)
    unfolding AllFit
    fit_here f = subst (AllFit side count units) here (g.needed f)

    not-all : {w' : List ℕ} → length w' ≡ length w → (AllFit side count units₀ l → ⊥) → AllOutlinesStored side count units₀ l w₀ w' false
    not-all long no_fit = record { long = long ∙ g.long; done = λ z. absurd (false≢true z); none = λ z. no_fit }

    pub no_such_owner : count ≤ owner → AllOutlinesStored side count units₀ l w₀ w false
    no_such_owner h = not-all refl (λ f. let z : ⊥ = omega (arith, (fit_here f).0) in z)

    pub cycle_not_stored : {w' : List ℕ} {left : ℕ} → Stored side (owner + 1) units (outline corners) w w' false left
        → AllOutlinesStored side count units₀ l w₀ w' false
    cycle_not_stored s = not-all s.long (λ f. s.none refl (fit_here f).1)

    pub one_cycle_more : {w' : List ℕ} {left : ℕ} → owner < count → Stored side (owner + 1) units (outline corners) w w' true left
        → NextCycle side count units₀ es l w₀ w' left end (k + 1)
    unfolding begin_of store_all AllFit
    one_cycle_more {w'} {left} below s =
        let a = s.done refl in
        let next : suc k ≡ k + 1 = omega arith in
        let r : owner + 1 ≡ suc owner = omega arith in
        subst (NextCycle side count units₀ es l w₀ w' left end) next
        (record {
          begins = end_is;
          long = s.long ∙ g.long;
          stored =
              ap (store_all side (drop (suc k) l)) (a.stored ∙ ap (λ (v : ℕ). stores side v (outline corners) w) r)
              ∙ ap (λ (cs : List Cycle). store_all side cs w) (sym here)
              ∙ g.stored;
          enough = λ f.
              g.enough (subst (AllFit side count units) (sym here)
              (below, a.fits, subst (λ (u : ℕ). AllFit side count u (drop (suc k) l)) a.units_left f));
          needed = λ f. subst (λ (u : ℕ). AllFit side count u (drop (suc k) l)) (sym a.units_left) (fit_here f).2;
        })
