-- The walk along one cycle that compares its corners with given ones and marks its eastward edges: what holds before each run, and that a
-- run keeps it.
use Rattle.std.specs.Prelude.{◌≡◌, refl, ◌≢◌, ◌⊎◌, Bool, true, false, not, length, get_or, eqb, leb}
use Rattle.std.proofs.Math.Path.{sym, ap}
use Rattle.std.proofs.Common.{ap₂, ◌∙◌, subst, inl, inr, le_trans, add-one, arith, length-append, length-take-le, take-suc, eqb-true, eq-eqb, leb-true, le-leb}
use Rattle.std.proofs.lemmas.Bool.{false≢true}
use mathlib.Core.List.{List, [], ◌∷◌, ◌++◌, append_assoc, append-nil}
use Prim.Native.Nat.{ℕ, ◌+◌, ◌*◌, ◌%◌, ◌≤◌, ◌<◌}
use Rattle.std.proofs.Math.ListN.{take}
use Rattle.std.proofs.Math.Seq.{take-length, get_or-append_seam}
use Rattle.interleaving.specs.Codes.{code}
use Rattle.lattice.specs.Directions.{point, x_of, y_of, edge, tail, digit}
use Rattle.lattice.specs.Walks.{turns}
use Rattle.lattice.specs.Corners.{turns-turn}
use Rattle.lattice.specs.Outlines.{x_of_point, y_of_point, tail-edge, digit-edge}
use Rattle.orbits.specs.Members.{In, in_first, in_none, in_append, in_right}
use Rattle.grid.specs.Steps.{step}
use Rattle.grid.specs.Cycles.{cycle_from, code_right}
use Rattle.grid.specs.Undoing.{digit-below_four}
use Rattle.grid.specs.Closing.{others, cycle-first}
use Rattle.steps.specs.Look.{map_at, at_margin}
use Rattle.cycles.specs.Marks.{marks}
use Rattle.cycles.specs.Points.{EdgeAt, way_at, at_start, not_at_start}
use Rattle.cycles.specs.Rounds.{FirstEdge, rest, left_after, rest_none, Before, set_out, square-here, edge_here, rest-first, onward, all_marked}
use Rattle.cycles.specs.Straight.{Straight, Gone, RunDone, run-done}
use Rattle.cycles.specs.Walking.{corners_from}
use Rattle.sequences.specs.Says.{Says, says_yes, says_no, denied}
use Rattle.cycle_checks.specs.Runs.{east_inside, RunEdges, run-edges}

-- The given corners are those of the cycle through the edge s of a map, and no eastward edge of the cycle has a pixel with a smaller code on
-- its right than s has.
pub record Matches (side s : ℕ) (map given : List ℕ) : Type 0 where
  pub corners_are : given ≡ corners_from (map_at side map) s
  pub least : (a : ℕ) → In a (cycle_from (map_at side map) s) → digit a ≡ 0 → code_right 8 s ≤ code_right 8 a

-- The answer of the walk: whether they match; if so, the eastward edges of the cycle are marked.
pub record Compared (side r s : ℕ) (map given map' : List ℕ) (ok : Bool) : Type 0 where
  pub long : length map' ≡ length map
  pub answer : Says ok (Matches side s map given)
  pub marked : ok ≡ true → map' ≡ marks 0 side r (cycle_from (map_at side map) s) map

-- What is asked where the edge with the digit d begins at the corner (x, y): the corner is the next given one, and the pixel on the right of
-- an eastward edge has no code below `least`.
pub record CornerAgrees (given : List ℕ) (used least x y d : ℕ) : Type 0 where
  pub some : used < length given
  pub same : get_or given used 0 ≡ point x y
  pub not-below : d ≡ 0 → least ≤ code 8 x y

-- What the test needs: the numbers are small.
pub record CornerDue (given : List ℕ) (used x y d : ℕ) : Type 0 where
  pub within : used ≤ length given
  pub x_low : x ≤ 256
  pub y_low : y ≤ 256
  pub inside : d ≡ 0 → (x < 256) × (y < 256)

-- The edges that are left of the cycle, from e on.
abbrev pub edges_left : (ℕ → ℕ → ℕ) → ℕ → ℕ → List ℕ
edges_left m s e = e ∷ rest m s (step m e)

-- Before a run: the walk is at the corner (x, y), where the edge with the digit d begins. The `used` corners before it are as given, and
-- the edges walked have no pixel with a smaller code than that of s on their right.
pub record Comparing (side r s : ℕ) (map₀ given map : List ℕ) (used x y d : ℕ) : Type 0 where
  pub x_low : x < 512
  pub low : d < 4
  pub round : Before 0 side r s map₀ map (edge (point x y) d)
  pub before : ℕ
  pub due : before ≢ d
  pub within : used ≤ length given
  pub total : take used given ++ turns before (edges_left (map_at side map₀) s (edge (point x y) d)) ≡ corners_from (map_at side map₀) s
  pub walked : List ℕ
  pub whole : walked ++ edges_left (map_at side map₀) s (edge (point x y) d) ≡ cycle_from (map_at side map₀) s
  pub least : (a : ℕ) → In a walked → digit a ≡ 0 → code_right 8 s ≤ code_right 8 a

-- The pixel on the right of an eastward edge in the code's numbers.
pub code_of_edge : (x y d : ℕ) → x < 512 → d < 4 → code_right 8 (edge (point x y) d) ≡ code 8 x y
unfolding code_right
code_of_edge x y d h l =
    ap (λ (p : ℕ). code 8 (x_of p) (y_of p)) (tail-edge (point x y) d l) ∙ ap₂ (code 8) (x_of_point x y h) (y_of_point x y h)

-- ---- the test at a corner, case by case

module _ {given : List ℕ} {used least x y d : ℕ} where
  pub none_left : used ≡ length given → Says false (CornerAgrees given used least x y d)
  none_left e = says_no (λ a. omega (arith, a.some))

  pub another_corner : get_or given used 0 ≢ point x y → Says false (CornerAgrees given used least x y d)
  another_corner n = says_no (λ a. n a.same)

  module _ (some : used < length given) (same : get_or given used 0 ≡ point x y) where
    pub not_eastward : d ≢ 0 → Says true (CornerAgrees given used least x y d)
    not_eastward n = says_yes (record { some = some; same = same; not-below = λ z. absurd (n z) })

    pub by_code : {c : ℕ} → c ≡ code 8 x y → d ≡ 0 → Says (leb least c) (CornerAgrees given used least x y d)
    by_code {c} e z = (
      λ h. record { some = some; same = same; not-below = λ _. subst (λ (v : ℕ). least ≤ v) e (leb-true least c h) },
      λ a. le-leb least c (subst (λ (v : ℕ). least ≤ v) (sym e) (a.not-below z)),
    )

module _ {side r s : ℕ} {map₀ given map : List ℕ} {used x y d : ℕ} (first : FirstEdge side r s map₀) (w : Comparing side r s map₀ given map used x y d) where
  pub edge_at : EdgeAt side r map x y d
  edge_at = record { square = square-here first.square w.round; x_low = w.x_low; low = w.low; on_region = edge_here first.square w.round }

  -- An eastward edge there has a pixel of the image on its right.
  inside_there : d ≡ 0 → (x < 256) × (y < 256)
  inside_there z =
      let f = east_inside (map_at side map₀) (at_margin side map₀ first.square.small) r (edge (point x y) d) w.round.on_region
      (digit-edge (point x y) d w.low ∙ z) in
      let ex : x_of (tail (edge (point x y) d)) ≡ x = ap x_of (tail-edge (point x y) d w.low) ∙ x_of_point x y w.x_low in
      let ey : y_of (tail (edge (point x y) d)) ≡ y = ap y_of (tail-edge (point x y) d w.low) ∙ y_of_point x y w.x_low in
      (omega (arith, f.0), omega (arith, f.1))

  -- What the test at the corner needs.
  pub corner_due : CornerDue given used x y d
  corner_due = let v = way_at edge_at in record { within = w.within; x_low = v.x_low; y_low = v.y_low; inside = inside_there }

  -- The corner is not yet taken.
  due_there : take used given ++ point x y ∷ turns (digit (edge (point x y) d)) (rest (map_at side map₀) s (step (map_at side map₀) (edge (point x y) d)))
      ≡ corners_from (map_at side map₀) s
  due_there =
      let e : ℕ = edge (point x y) d in
      let next : List ℕ = rest (map_at side map₀) s (step (map_at side map₀) e) in
      ap (λ (p : ℕ). take used given ++ p ∷ turns (digit e) next) (sym (tail-edge (point x y) d w.low))
      ∙ ap (λ (l : List ℕ). take used given ++ l) (sym (turns-turn w.before e next (λ h. w.due (h ∙ digit-edge (point x y) d w.low))))
      ∙ w.total

  -- Where the given corners match they agree here.
  matching_agrees : Matches side s map₀ given → CornerAgrees given used (code_right 8 s) x y d
  matching_agrees a =
      let e : ℕ = edge (point x y) d in
      let next : List ℕ = rest (map_at side map₀) s (step (map_at side map₀) e) in
      let here : given ≡ take used given ++ point x y ∷ turns (digit e) next = a.corners_are ∙ sym due_there in
      let size : length (take used given) ≡ used = length-take-le used given w.within in
      record {
        some = omega (arith, ap length here, length-append (take used given) (point x y ∷ turns (digit e) next));
        same = ap (λ (l : List ℕ). get_or l used 0) here ∙ ap (λ (i : ℕ). get_or (take used given ++ point x y ∷ turns (digit e) next) i 0) (sym size)
            ∙ get_or-append_seam (take used given) (point x y) (turns (digit e) next) 0;
        not-below = λ z. subst (λ (v : ℕ). code_right 8 s ≤ v) (code_of_edge x y d w.x_low w.low)
            (a.least e (subst (In e) w.whole (in_right e w.walked (e ∷ next) (in_first e next))) (digit-edge (point x y) d w.low ∙ z));
      }

-- After a run, before the test for the start (column, row).
pub record OneRunMore (side r column row : ℕ) (map₀ given map : List ℕ) (used x y d x' y' d' : ℕ) : Type 0 where
  pub small : 4 * (512 * y' + x') + d' < 1048576
  pub long : length map ≡ length map₀
  pub ends : 4 * (512 * y' + x') + d' ≡ 4 * (512 * row + column) → Compared side r (edge (point column row) 0) map₀ given map (eqb used (length given))
  pub again : 4 * (512 * y' + x') + d' ≢ 4 * (512 * row + column) → Comparing side r (edge (point column row) 0) map₀ given map used x' y' d'
  pub shorter : 4 * (512 * y' + x') + d' ≢ 4 * (512 * row + column)
      → left_after side (edge (point column row) 0) map₀ x' y' d' < left_after side (edge (point column row) 0) map₀ x y d

module _ {side r : ℕ} {map₀ : List ℕ} (column row : ℕ) (first : FirstEdge side r (edge (point column row) 0) map₀) (narrow : column < 512) where
  pub at_first : {given : List ℕ} → Comparing side r (edge (point column row) 0) map₀ given map₀ 0 column row 0
  unfolding rest corners_from others
  at_first =
      let s : ℕ = edge (point column row) 0 in
      record {
        x_low = narrow;
        low = omega arith;
        round = set_out first.square 0 first.on_region;
        before = 4;
        due = omega arith;
        within = omega arith;
        total = turns-turn 4 s (others (map_at side map₀) s) (omega (arith, digit-below_four s));
        walked = [];
        whole = sym (cycle-first (map_at side map₀) s);
        least = λ a i. in_none a i;
      }

  pub start-inside : (column < 256) × (row < 256)
  start-inside = inside_there first (at_first {given = []}) refl

  module _ {least : ℕ} (its_code : least ≡ code 8 column row) {given map : List ℕ} {used x y d : ℕ}
      (w : Comparing side r (edge (point column row) 0) map₀ given map used x y d) where
    code_of_first : code_right 8 (edge (point column row) 0) ≡ least
    code_of_first = code_of_edge column row 0 narrow (omega arith) ∙ sym its_code

    -- The corner is not the given one: the walk breaks off.
    pub breaks_off : {ok : Bool} → Says ok (CornerAgrees given used least x y d) → not ok ≡ true → Compared side r (edge (point column row) 0) map₀ given map false
    breaks_off says e = record {
      long = w.round.long;
      answer = says_no (λ a. denied says e (subst (λ (v : ℕ). CornerAgrees given used v x y d) code_of_first (matching_agrees first w a)));
      marked = λ h. absurd (false≢true h);
    }

    pub one_run_more : CornerAgrees given used least x y d → {map' : List ℕ} {x' y' d' : ℕ} → Gone 0 side r map x y d map' x' y' d'
        → OneRunMore side r column row map₀ given map' (used + 1) x y d x' y' d'
    unfolding left_after turns
    one_run_more agrees {map'} {x'} {y'} {d'} gone = record {
      small = omega (arith, gone.x_low, gone.y_low, gone.low);
      long = done.round.long;
      ends = λ h. came_round (at_start column row x' y' d' h);
      again = λ n. let o : e' ≢ s = not_at_start column row x' y' d' n in record {
        x_low = omega (arith, gone.x_low);
        low = gone.low;
        round = onward first.square done.round o;
        before = digit e;
        due = λ h. gone.turned (ap (λ (v : ℕ). v % 2) (sym h ∙ digit-edge (point x y) d w.low));
        within = omega (arith, agrees.some);
        total = ap (λ (l : List ℕ). take (used + 1) given ++ turns (digit e) l) (sym (rest-first first.square done.round o)) ∙ corners_left;
        walked = w.walked ++ edges.run;
        whole = ap (λ (l : List ℕ). (w.walked ++ edges.run) ++ l) (sym (rest-first first.square done.round o)) ∙ edges_left_lem;
        least = none_below;
      };
      shorter = λ n. done.shorter (not_at_start column row x' y' d' n);
    }
      where
        m : ℕ → ℕ → ℕ
        m = map_at side map₀

        s : ℕ
        s = edge (point column row) 0

        e : ℕ
        e = edge (point x y) d

        e' : ℕ
        e' = edge (point x' y') d'

        straight : Straight 0 side r m map' e' map e
        straight = subst (λ (a : ℕ → ℕ → ℕ). Straight 0 side r a map' e' map e) w.round.same_map gone.straight

        done : RunDone 0 side r s map₀ map' e e'
        done = run-done first straight w.round

        edges : RunEdges m s e e'
        edges = run-edges first straight w.round

        corners_left : take (used + 1) given ++ turns (digit e) (rest m s e') ≡ corners_from m s
        corners_left =
            ap₂ {A = List ℕ} {B = List ℕ} ◌++◌ (ap (λ (k : ℕ). take k given) (add-one used) ∙ take-suc given used 0 agrees.some
            ∙ ap (λ (p : ℕ). take used given ++ (p ∷ [])) agrees.same) (sym edges.no_corner)
            ∙ append_assoc (take used given) (point x y ∷ []) (turns (digit e) (rest m s (step m e)))
            ∙ due_there first w

        edges_left_lem : (w.walked ++ edges.run) ++ rest m s e' ≡ cycle_from m s
        edges_left_lem = append_assoc w.walked edges.run (rest m s e') ∙ ap (λ (l : List ℕ). w.walked ++ l) edges.joined ∙ w.whole

        from_here : d ≡ 0 → code_right 8 s ≤ code_right 8 e
        from_here z = omega (arith, agrees.not-below z, code_of_first, code_of_edge x y d w.x_low w.low)

        none_below : (a : ℕ) → In a (w.walked ++ edges.run) → digit a ≡ 0 → code_right 8 s ≤ code_right 8 a
        none_below a i z = pick (in_append a w.walked edges.run i)
          where
            pick : In a w.walked ⊎ In a edges.run → code_right 8 s ≤ code_right 8 a
            pick (inl j) = w.least a j z
            pick (inr j) =
                let o : digit e ≡ 0 = sym (edges.one_way a j) ∙ z in
                le_trans (from_here (sym (digit-edge (point x y) d w.low) ∙ o)) (edges.rising o a j)

        -- Back at the start the corners taken are those of the cycle; they are the given ones if none is left.
        came_round : e' ≡ s → Compared side r s map₀ given map' (eqb (used + 1) (length given))
        came_round h = record {
          long = done.round.long;
          answer = (λ t. all_taken (eqb-true (used + 1) (length given) t), λ a. eq-eqb (used + 1) (length given) (none_over a));
          marked = λ t. all_marked first.square done.round h;
        }
          where
            taken : take (used + 1) given ≡ corners_from m s
            taken =
                sym (append-nil (take (used + 1) given)) ∙ ap (λ (l : List ℕ). take (used + 1) given ++ turns (digit e) l) (sym (rest_none m s e' h)) ∙ corners_left

            all_taken : used + 1 ≡ length given → Matches side s map₀ given
            all_taken q = record {
              corners_are = sym (take-length given) ∙ ap (λ (k : ℕ). take k given) (sym q) ∙ taken;
              least = λ a i. none_below a (subst (In a) (sym (sym (append-nil (w.walked ++ edges.run))
                  ∙ ap (λ (l : List ℕ). (w.walked ++ edges.run) ++ l) (sym (rest_none m s e' h)) ∙ edges_left_lem)) i);
            }

            none_over : Matches side s map₀ given → used + 1 ≡ length given
            none_over a = sym (length-take-le (used + 1) given (omega (arith, agrees.some))) ∙ ap length (taken ∙ sym a.corners_are)
