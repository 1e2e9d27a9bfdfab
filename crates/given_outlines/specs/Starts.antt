-- When a list of cycles is the listing of a numbered image: each cycle is the one from the start pixel that its first corner tells, they
-- stand in order, and every north side that is an edge is met.
use Rattle.std.specs.Prelude.{◌≡◌, ◌↔◌, ℕ, suc, ◌^◌, ◌≤◌, ◌<◌, length, get_or}
use Rattle.std.proofs.Math.Path.{refl, ap, ap₂, subst}
use Rattle.std.proofs.Common.{sym, ◌∙◌, inl, inr, arith}
use mathlib.Core.List.{List, [], ◌∷◌, map}
use Rattle.interleaving.specs.Codes.{code}
use Rattle.interleaving.specs.Interleaving.{code_of_coordinates}
use Rattle.lattice.specs.Directions.{x_of, y_of}
use Rattle.lattice.specs.Walks.{corners}
use Rattle.orbits.specs.Members.{In, Ordered, in_first, in_later}
use Rattle.grid.specs.Map.{region_at}
use Rattle.grid.specs.Steps.{Edge}
use Rattle.grid.specs.Cycles.{north_side, cycle}
use Rattle.grid.specs.Listing.{start_codes, Cycle, cycle_at, listing}
use Rattle.grid.specs.North.{corner_x, corner_y, north-tail}
use Rattle.grid.specs.Starting.{StartAt, Started, start_says, says_start, some_start, one_start}
use Rattle.grid.specs.Closing.{others, cycle-first, corners_from_start}
use Rattle.grid.specs.Keeping.{Before, in_start_codes, in_order}
use Rattle.orbits.specs.InOrder.{same_members_same_list, ordered_by_neighbours}

-- The pixel southeast of a point: the start pixel of the cycle whose first corner it is.
unfoldable pub code_at : ℕ → ℕ → ℕ
unfolding code x_of y_of
code_at n p = code n (x_of p) (y_of p)

-- The start pixels that the first corners of cycles tell.
unfoldable pub starts_told : ℕ → List Cycle → List ℕ
unfolding code_at
starts_told n l = map (λ (c : Cycle). code_at n (get_or c.points 0 0)) l

-- The pixels of the list ss are the start pixels of all cycles, in the order of the listing.
pub record AllStarts (n : ℕ) (nums ss : List ℕ) : Type 0 where
  pub starts : (c : ℕ) → In c ss → StartAt n nums c
  pub in_order : Ordered (Before n nums) ss
  pub each_met : (c : ℕ) → c < 4 ^ n → Edge (region_at n nums) (suc (get_or nums c 0)) (north_side n c) → (s : ℕ) × In s ss × In (north_side n c) (cycle n nums s)

-- Each cycle of the list is the one from the start that its first corner tells, and these are all starts, in order.
pub record EachFromItsStart (n : ℕ) (nums : List ℕ) (l : List Cycle) : Type 0 where
  pub cycles : l ≡ map (cycle_at n nums) (starts_told n l)
  pub all : AllStarts n nums (starts_told n l)

-- "by region number, then by the code of that start pixel" is a strict order.
module _ (n : ℕ) (nums : List ℕ) where
  pub before_strict : (a b : ℕ) → Before n nums a b → Before n nums b a → ⊥
  before_strict a b (inl h) (inl k) = let z : ⊥ = omega arith in z
  before_strict a b (inl h) (inr k) = let z : ⊥ = omega (arith, k.0) in z
  before_strict a b (inr h) (inl k) = let z : ⊥ = omega (arith, h.0) in z
  before_strict a b (inr h) (inr k) = let z : ⊥ = omega (arith, h.1, k.1) in z

  pub before_through : (a b c : ℕ) → Before n nums a b → Before n nums b c → Before n nums a c
  before_through a b c (inl h) (inl k) = inl (omega arith)
  before_through a b c (inl h) (inr k) = inl (omega (arith, k.0))
  before_through a b c (inr h) (inl k) = inl (omega (arith, h.0))
  before_through a b c (inr h) (inr k) = inr (h.0 ∙ k.0, omega (arith, h.1, k.1))

  -- It is enough to compare each start with the next.
  pub starts_in_order : (ss : List ℕ) → ((i : ℕ) → suc i < length ss → Before n nums (get_or ss i 0) (get_or ss (suc i) 0)) → Ordered (Before n nums) ss
  starts_in_order ss next = ordered_by_neighbours (Before n nums) before_through ss next

through_itself : (n : ℕ) (nums : List ℕ) (c : ℕ) → In (north_side n c) (cycle n nums c)
unfolding cycle
through_itself n nums c =
    subst (In (north_side n c)) (sym (cycle-first (region_at n nums) (north_side n c))) (in_first (north_side n c) (others (region_at n nums) (north_side n c)))

module _ (n : ℕ) (nums : List ℕ) (regions : ℕ) (small : n ≤ 8) (known : (c : ℕ) → c < 4 ^ n → get_or nums c 0 < regions) where
  pub all_starts_are_listed : (ss : List ℕ) → AllStarts n nums ss → ss ≡ start_codes n nums regions
  all_starts_are_listed ss a =
      same_members_same_list (Before n nums) (before_strict n nums) ss (start_codes n nums regions) a.in_order (in_order n nums regions)
      (λ c i. let s : StartAt n nums c = a.starts c i in
      (in_start_codes n nums regions c).1 (s.inside, known c s.inside, says_start n nums small c s))
      (λ c i. back c i)
    where
      from : (c : ℕ) → StartAt n nums c → (s : ℕ) × In s ss × In (north_side n c) (cycle n nums s) → In c ss
      from c s (d, j, w) = subst (λ (x : ℕ). In x ss) (one_start n nums small d c (north_side n c) (a.starts d j) s w (through_itself n nums c)) j

      back : (c : ℕ) → In c (start_codes n nums regions) → In c ss
      back c i =
          let h = (in_start_codes n nums regions c).0 i in
          let s : StartAt n nums c = start_says n nums small c h.0 h.2 in
          from c s (a.each_met c h.0 s.north)

  pub listed_are_all_starts : AllStarts n nums (start_codes n nums regions)
  listed_are_all_starts = record {
    starts = λ c i. let h = (in_start_codes n nums regions c).0 i in start_says n nums small c h.0 h.2;
    in_order = in_order n nums regions;
    each_met = λ c h e. from c (some_start n nums small (suc (get_or nums c 0)) (north_side n c) e);
  }
    where
      from : (c : ℕ) → Started n nums small (suc (get_or nums c 0)) (north_side n c) → (s : ℕ) × In s (start_codes n nums regions) × In (north_side n c) (cycle n nums s)
      from c w = (
        w.start,
        (in_start_codes n nums regions w.start).1 (w.starts.inside, known w.start w.starts.inside, says_start n nums small w.start w.starts),
        w.on_cycle,
      )

  -- The listing tells its starts by its first corners.
  told_by_first_corner : (c : ℕ) → StartAt n nums c → code_at n (get_or (corners (cycle n nums c)) 0 0) ≡ c
  unfolding code_at
  told_by_first_corner c s =
      ap (λ (ps : List ℕ). code_at n (get_or ps 0 0)) (corners_from_start n nums small c s)
      ∙ ap (code_at n) (north-tail n c)
      ∙ ap₂ (code n) (corner_x n small c) (corner_y n small c)
      ∙ code_of_coordinates n c s.inside

  told_of : (cs : List ℕ) → ((c : ℕ) → In c cs → StartAt n nums c) → starts_told n (map (cycle_at n nums) cs) ≡ cs
  unfolding starts_told cycle_at
  told_of [] f = refl
  told_of (c ∷ cs) f = ap₂ {A = ℕ} {B = List ℕ} ◌∷◌ (told_by_first_corner c (f c (in_first c cs))) (told_of cs (λ d i. f d (in_later d c cs i)))

  pub listing_tells_starts : starts_told n (listing n nums regions) ≡ start_codes n nums regions
  unfolding listing
  listing_tells_starts = told_of (start_codes n nums regions) listed_are_all_starts.starts

  -- A list of cycles is the listing exactly where this holds of it.
  pub listing_exactly : (l : List Cycle) → (l ≡ listing n nums regions) ↔ EachFromItsStart n nums l
  unfolding listing
  listing_exactly l = (
    λ e. subst (EachFromItsStart n nums) (sym e) (record {
      cycles = ap (map (cycle_at n nums)) (sym listing_tells_starts);
      all = subst (AllStarts n nums) (sym listing_tells_starts) listed_are_all_starts;
    }),
    λ h. h.cycles ∙ ap (map (cycle_at n nums)) (all_starts_are_listed (starts_told n l) h.all),
  )
