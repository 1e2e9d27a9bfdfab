-- The walk along one cycle that writes its corners, adds up its area and marks its eastward edges: what holds at the loop's head, and that
-- a turn keeps it.
use Rattle.std.specs.Prelude.{◌≡◌, ◌≢◌, ℤ, pos, nat_abs, ◌*ℤ◌}
use Rattle.std.proofs.Math.Path.{refl, sym, ap, ap₂, subst}
use Rattle.std.proofs.Common.{◌∙◌, subst₂, arith}
use mathlib.Core.List.{List, [], ◌∷◌, ◌++◌, append_assoc, append-nil}
use Prim.Native.Nat.{ℕ, ◌+◌, ◌*◌, ◌%◌, ◌≤◌, ◌<◌}
use Rattle.std.proofs.Math.ListN.{length, set, length-append, length-set}
use Rattle.std.proofs.Math.IntN.{◌+ℤ◌, +ℤ_assoc, +ℤ_idr, +ℤ_invr, *ℤ-zero}
use Rattle.sequences.specs.Over.{over, over_none, over_push}
use Rattle.lattice.specs.Directions.{point, y_of, edge, tail, digit}
use Rattle.lattice.specs.Walks.{turns}
use Rattle.lattice.specs.Corners.{turns_on, turns-turn}
use Rattle.lattice.specs.Outlines.{x_of_point, y_of_point, tail-edge, digit-edge}
use Rattle.lattice.specs.Area.{area, leg_area, leg_between, Aligned, area_push, aligned_then, legs_joined, area_size}
use Rattle.grid.specs.Margins.{Margin}
use Rattle.grid.specs.Steps.{step}
use Rattle.grid.specs.Cycles.{cycle_from}
use Rattle.grid.specs.Undoing.{digit-below_four}
use Rattle.grid.specs.Returning.{Ring, ring}
use Rattle.grid.specs.Closing.{others, cycle-first}
use Rattle.steps.specs.Look.{map_at, at_margin}
use Rattle.cycles.specs.Marks.{mark, marks}
use Rattle.cycles.specs.Points.{EdgeAt, at_start, not_at_start}
use Rattle.cycles.specs.Rounds.{FirstEdge, rest, left_after, rest_none, Underway, set_out, square-here, edge_here, past, rest-first, onward, all_marked}
use Rattle.cycles.specs.Areas.{area_bound, edge_leg, edge_aligned}
use Rattle.cycles.specs.Straight.{Straight, turning, straight_on, Gone, not_first, run-done}

-- The corners of the cycle through the edge s of a map, whose direction differs from that of the edge before.
unfoldable pub corners_from : (ℕ → ℕ → ℕ) → ℕ → List ℕ
unfolding tail digit turns others
corners_from m s = tail s ∷ turns (digit s) (others m s)

-- A walk may begin with the edge s, and there is room for the corners of its cycle.
pub record Ready (side r s : ℕ) (map out : List ℕ) : Type 0 where
  pub first : FirstEdge side r s map
  pub room : length (corners_from (map_at side map) s) ≤ length out

-- They are written, sum is the area of the cycle, within the bound, and its eastward edges are marked.
pub record CycleWalked (side r s : ℕ) (map out map' out' : List ℕ) (k : ℕ) (sum : ℤ) : Type 0 where
  pub count : k ≡ length (corners_from (map_at side map) s)
  pub list : out' ≡ over (corners_from (map_at side map) s) out
  pub its_area : sum ≡ area (cycle_from (map_at side map) s)
  pub area_low : nat_abs sum ≤ area_bound
  pub marked : map' ≡ marks 0 side r (cycle_from (map_at side map) s) map

-- On the way round at the edge e: `used` corners are written, sum is the area of the edges walked, and d is the digit before the edges `todo`
-- that are left.
pub record CycleUnderway (side r s : ℕ) (map₀ out₀ map out : List ℕ) (used d e from : ℕ) (todo : List ℕ) (sum : ℤ) : Type 0 where
  pub round : Underway 0 side r s map₀ map e from todo
  pub wide : length out ≡ length out₀
  pub done : List ℕ
  pub so_far : used ≡ length done
  pub list : out ≡ over done out₀
  pub total : done ++ turns d todo ≡ corners_from (map_at side map₀) s
  pub walked : List ℕ
  pub whole : walked ++ todo ≡ cycle_from (map_at side map₀) s
  pub added : sum ≡ area walked

-- Before the edge e is done: a corner is due at its tail where d is not its digit. d is the digit before it, 4 at the start, and e's own
-- once its corner is written.
abbrev pub AtEdge : ℕ → ℕ → ℕ → List ℕ → List ℕ → List ℕ → List ℕ → ℕ → ℕ → ℕ → ℤ → Type 0
AtEdge side r s map₀ out₀ map out used d e sum =
    let next : ℕ = step (map_at side map₀) e in
    CycleUnderway side r s map₀ out₀ map out used d e next (e ∷ rest (map_at side map₀) s next) sum

-- After an edge: e is the next one.
abbrev pub PastEdge : ℕ → ℕ → ℕ → List ℕ → List ℕ → List ℕ → List ℕ → ℕ → ℕ → ℕ → ℤ → Type 0
PastEdge side r s map₀ out₀ map out used d e sum = CycleUnderway side r s map₀ out₀ map out used d e e (rest (map_at side map₀) s e) sum

module _ {side r s : ℕ} {map₀ out₀ : List ℕ} (ready : Ready side r s map₀ out₀) where
  margin_here : Margin (map_at side map₀)
  margin_here = at_margin side map₀ ready.first.square.small

  begin : AtEdge side r s map₀ out₀ map₀ out₀ 0 4 s (pos 0)
  unfolding rest corners_from others area
  begin = record {
    round = set_out ready.first.square 0 ready.first.on_region;
    wide = refl;
    done = [];
    so_far = refl;
    list = sym (over_none out₀);
    total = turns-turn 4 s (others (map_at side map₀) s) (omega (arith, digit-below_four s));
    walked = [];
    whole = sym (cycle-first (map_at side map₀) s);
    added = refl;
  }

  module _ {map out : List ℕ} {used d e : ℕ} {sum : ℤ} (g : AtEdge side r s map₀ out₀ map out used d e sum) where
    next : List ℕ
    next = rest (map_at side map₀) s (step (map_at side map₀) e)

    -- Room for one corner more, where one is due.
    room_here : d ≢ digit e → used < length out
    unfolding next
    room_here n =
        let l : length (g.done ++ tail e ∷ turns (digit e) next) ≡ length (corners_from (map_at side map₀) s) =
        ap (λ t. length (g.done ++ t)) (sym (turns-turn d e next n)) ∙ ap length g.total in
        let a : length g.done < length out₀ = omega (arith, l, ready.room, length-append g.done (tail e ∷ turns (digit e) next)) in
        omega (arith, a, g.wide, g.so_far)

    -- The corner is written.
    push : d ≢ digit e → AtEdge side r s map₀ out₀ map (set out used (tail e)) (used + 1) (digit e) e sum
    unfolding next
    push n = record {
      round = g.round;
      wide = length-set out used (tail e) ∙ g.wide;
      done = g.done ++ (tail e ∷ []);
      so_far = omega (arith, length-append g.done (tail e ∷ []), g.so_far);
      list = ap (λ t. set t used (tail e)) g.list ∙ over_push g.done out₀ (tail e) used g.so_far (omega (arith, room_here n, g.wide));
      total = ap (λ t. (g.done ++ (tail e ∷ [])) ++ t) (turns_on (digit e) e next refl)
          ∙ append_assoc g.done (tail e ∷ []) (turns (digit e) next) ∙ ap (λ t. g.done ++ t) (sym (turns-turn d e next n)) ∙ g.total;
      walked = g.walked;
      whole = g.whole;
      added = g.added;
    }

    -- The edge is marked, its area is added, and no corner is due at its tail.
    pass : {map' : List ℕ} {e' : ℕ} → d ≡ digit e → map' ≡ mark 0 side r map e → e' ≡ step (map_at side map₀) e
        → PastEdge side r s map₀ out₀ map' out used d e' (sum +ℤ leg_between (tail e) (tail e'))
    unfolding next
    pass {map'} {e'} same hm here = record {
      round = past ready.first.square g.round hm here;
      wide = g.wide;
      done = g.done;
      so_far = g.so_far;
      list = g.list;
      total = rw here (ap (λ t. g.done ++ t) (sym (turns_on d e next same)) ∙ g.total);
      walked = g.walked ++ (e ∷ []);
      whole = rw here (append_assoc g.walked (e ∷ []) next ∙ g.whole);
      added =
          ap₂ ◌+ℤ◌ g.added (ap (λ a. leg_between (tail e) (tail a)) here ∙ sym (edge_leg (map_at side map₀) margin_here r e g.round.on_region))
          ∙ sym (area_push g.walked e);
    }

  module _ {map out : List ℕ} {used d e : ℕ} {sum : ℤ} (p : PastEdge side r s map₀ out₀ map out used d e sum) where
    again : e ≢ s → AtEdge side r s map₀ out₀ map out used d e sum
    again n = record {
      round = onward ready.first.square p.round n;
      wide = p.wide;
      done = p.done;
      so_far = p.so_far;
      list = p.list;
      total = ap (λ t. p.done ++ turns d t) (sym (rest-first ready.first.square p.round n)) ∙ p.total;
      walked = p.walked;
      whole = ap (λ t. p.walked ++ t) (sym (rest-first ready.first.square p.round n)) ∙ p.whole;
      added = p.added;
    }

    -- Along the way the area stays within the bound.
    sum_size : nat_abs sum ≤ area_bound
    sum_size =
        let g : Ring (map_at side map₀) r s = ring (map_at side map₀) margin_here r s ready.first.on_region in
        omega (
          arith,
          ap nat_abs p.added,
          area_size p.walked,
          ap length p.whole,
          length-append p.walked (rest (map_at side map₀) s e),
          g.long,
          g.few,
        )

    finish : e ≡ s → CycleWalked side r s map₀ out₀ map out used sum
    unfolding turns
    finish h =
        let z : rest (map_at side map₀) s e ≡ [] = rest_none (map_at side map₀) s e h in
        let t : p.done ≡ corners_from (map_at side map₀) s = sym (append-nil p.done) ∙ ap (λ l. p.done ++ turns d l) (sym z) ∙ p.total in
        record {
          count = p.so_far ∙ ap length t;
          list = p.list ∙ ap (λ l. over l out₀) t;
          its_area = p.added ∙ ap area (sym (append-nil p.walked) ∙ ap (λ l. p.walked ++ l) (sym z) ∙ p.whole);
          area_low = sum_size;
          marked = all_marked ready.first.square p.round h;
        }

  -- Straight on from the edge e, whose corner is written.
  record Through (map' out : List ℕ) (used d e e' : ℕ) (sum : ℤ) : Type 0 where
    pub passed : PastEdge side r s map₀ out₀ map' out used d e' (sum +ℤ leg_between (tail e) (tail e'))
    pub aligned : Aligned d (tail e) (tail e')

  through : {map' : List ℕ} {e' : ℕ} {map : List ℕ} {e : ℕ} {out : List ℕ} {used d : ℕ} {sum : ℤ} → Straight 0 side r (map_at side map₀) map' e' map e → d ≡ digit e
      → AtEdge side r s map₀ out₀ map out used d e sum → Through map' out used d e e' sum
  through {map'} {e'} {map} {e} {out} {used} {d} {sum} (turning hm here n) same g =
      record {
        passed = pass g same hm here;
        aligned = subst₂ (λ o a. Aligned o (tail e) (tail a)) (sym same) (sym here) (edge_aligned (map_at side map₀) margin_here r e g.round.on_region);
      }
  through {map'} {e'} {map} {e} {out} {used} {d} {sum} (straight_on straight more) same g =
      let next : ℕ = step (map_at side map₀) e in
      let p : PastEdge side r s map₀ out₀ (mark 0 side r map e) out used d next (sum +ℤ leg_between (tail e) (tail next)) = pass g same refl refl in
      let o : next ≢ s = not_first ready.first e g.round.on_region straight in
      let t : Through map' out used d next e' (sum +ℤ leg_between (tail e) (tail next)) = through more (same ∙ sym straight) (again p o) in
      let first : Aligned d (tail e) (tail next) = subst (λ a. Aligned a (tail e) (tail next)) (sym same) (edge_aligned (map_at side map₀) margin_here r e g.round.on_region) in
      record {
        passed =
            subst (PastEdge side r s map₀ out₀ map' out used d e')
            (+ℤ_assoc sum (leg_between (tail e) (tail next)) (leg_between (tail next) (tail e')) ∙ ap (λ z. sum +ℤ z) (legs_joined d (tail e) (tail next) (tail e') first t.aligned))
            t.passed;
        aligned = aligned_then first t.aligned;
      }

-- Before a run: a corner is due at (x, y), where the edge with the digit d begins, and sum is the area so far.
pub record CornerDue (side r s : ℕ) (map₀ out₀ map out : List ℕ) (used : ℕ) (sum : ℤ) (x y d : ℕ) : Type 0 where
  pub x_low : x < 512
  pub low : d < 4
  pub before : ℕ
  pub due : before ≢ d
  pub going : AtEdge side r s map₀ out₀ map out used before (edge (point x y) d) sum

module _ {side r s : ℕ} {map₀ out₀ map out : List ℕ} {used x y d : ℕ} {sum : ℤ} (ready : Ready side r s map₀ out₀)
    (w : CornerDue side r s map₀ out₀ map out used sum x y d) where
  corner_due : w.before ≢ digit (edge (point x y) d)
  corner_due h = w.due (h ∙ digit-edge (point x y) d w.low)

  pub due_room : used < length out
  due_room = room_here ready w.going corner_due

  pub due_at : EdgeAt side r map x y d
  due_at = record { square = square-here ready.first.square w.going.round; x_low = w.x_low; low = w.low; on_region = edge_here ready.first.square w.going.round }

-- The area with what the run from (x, y) to the row y' adds.
abbrev pub with_leg : ℤ → ℕ → ℕ → ℕ → ℤ
with_leg sum x y y' = sum +ℤ leg_area x y y'

no_leg : (sum : ℤ) (x y y' : ℕ) → y' ≡ y → sum ≡ with_leg sum x y y'
unfolding leg_area
no_leg sum x y y' h =
    sym (ap (λ z. with_leg sum x y z) h ∙ ap (λ z. sum +ℤ pos x *ℤ z) (+ℤ_invr (pos y)) ∙ ap (λ z. sum +ℤ z) (*ℤ-zero (pos x)) ∙ +ℤ_idr sum)

-- After one run, before any test for the start (column, row): `more` is the area then.
pub record OneCornerMore (side r column row : ℕ) (map₀ out₀ map out : List ℕ) (used : ℕ) (more : ℤ) (x y d x' y' d' : ℕ) : Type 0 where
  pub low : 4 * (512 * y' + x') + d' < 1048576
  pub long : length map ≡ length map₀
  pub wide : length out ≡ length out₀
  pub size : nat_abs more ≤ area_bound
  pub level : d % 2 ≡ 0 → y' ≡ y
  pub ends : {sum' : ℤ} → sum' ≡ more → 4 * (512 * y' + x') + d' ≡ 4 * (512 * row + column)
      → CycleWalked side r (edge (point column row) 0) map₀ out₀ map out used sum'
  pub again : {sum' : ℤ} → sum' ≡ more → 4 * (512 * y' + x') + d' ≢ 4 * (512 * row + column)
      → CornerDue side r (edge (point column row) 0) map₀ out₀ map out used sum' x' y' d'
  pub shorter : 4 * (512 * y' + x') + d' ≢ 4 * (512 * row + column) → left_after side (edge (point column row) 0) map₀ x' y' d' < left_after side (edge (point column row) 0) map₀ x y d

module _ {side r : ℕ} (column row : ℕ) {map₀ out₀ : List ℕ} (ready : Ready side r (edge (point column row) 0) map₀ out₀) where
  pub due_at_start : column < 512 → CornerDue side r (edge (point column row) 0) map₀ out₀ map₀ out₀ 0 (pos 0) column row 0
  due_at_start h = record { x_low = h; low = omega arith; before = 4; due = omega arith; going = begin ready }

  module _ {map out : List ℕ} {used x y d : ℕ} {sum : ℤ} (w : CornerDue side r (edge (point column row) 0) map₀ out₀ map out used sum x y d) where
    pub one_corner_more : {map' : List ℕ} {x' y' d' : ℕ} (used' : ℕ) → used + 1 ≡ used' → Gone 0 side r map x y d map' x' y' d'
        → OneCornerMore side r column row map₀ out₀ map' (set out used (point x y)) used' (with_leg sum x y y') x y d x' y' d'
    unfolding left_after
    one_corner_more {map'} {x'} {y'} {d'} used' one gone =
        let here : ℕ = edge (point x y) d in
        let there : ℕ = edge (point x' y') d' in
        let run : Straight 0 side r (map_at side map₀) map' there map here = subst (λ m. Straight 0 side r m map' there map here) w.going.round.same_map gone.straight in
        let t : Through ready map' (set out used (point x y)) used' (digit here) here there sum =
        through ready run refl (subst₂ (λ p k. AtEdge side r (edge (point column row) 0) map₀ out₀ map (set out used p) k (digit here) here sum)
        (tail-edge (point x y) d w.low) one (push ready w.going (corner_due ready w))) in
        let leg_here : leg_between (tail here) (tail there) ≡ leg_area x y y' =
        ap₂ leg_between (tail-edge (point x y) d w.low) (tail-edge (point x' y') d' gone.low)
        ∙ ap₂ (λ (a b : ℕ). leg_area a b (y_of (point x' y'))) (x_of_point x y w.x_low) (y_of_point x y w.x_low)
        ∙ ap (leg_area x y) (y_of_point x' y' (omega (arith, gone.x_low))) in
        let passed : (sum' : ℤ) → sum' ≡ with_leg sum x y y'
        → PastEdge side r (edge (point column row) 0) map₀ out₀ map' (set out used (point x y)) used' (digit here) there sum' =
        λ sum' e. subst (PastEdge side r (edge (point column row) 0) map₀ out₀ map' (set out used (point x y)) used' (digit here) there)
        (ap (λ z. sum +ℤ z) leg_here ∙ sym e) t.passed in
        record {
          low = omega (arith, gone.x_low, gone.y_low, gone.low);
          long = t.passed.round.long;
          wide = t.passed.wide;
          size = sum_size ready (passed (with_leg sum x y y') refl);
          level = λ h. sym (y_of_point x' y' (omega (arith, gone.x_low))) ∙ sym (ap y_of (tail-edge (point x' y') d' gone.low))
              ∙ t.aligned.row (ap (λ (o : ℕ). o % 2) (digit-edge (point x y) d w.low) ∙ h) ∙ ap y_of (tail-edge (point x y) d w.low) ∙ y_of_point x y w.x_low;
          ends = λ {sum'} e h. finish ready (passed sum' e) (at_start column row x' y' d' h);
          again = λ {sum'} e n. record {
            x_low = omega (arith, gone.x_low);
            low = gone.low;
            before = digit here;
            due = λ h. gone.turned (ap (λ (o : ℕ). o % 2) (sym h ∙ digit-edge (point x y) d w.low));
            going = again ready (passed sum' e) (not_at_start column row x' y' d' n);
          };
          shorter = λ n. (run-done ready.first run w.going.round).shorter (not_at_start column row x' y' d' n);
        }

    -- After the run along a row the start, an eastward edge, is not reached: a corner is due, where a run along a column begins.
    pub record ColumnDue (map' : List ℕ) (x' y' d' : ℕ) : Type 0 where
      pub odd : d' % 2 ≡ 1
      pub due : CornerDue side r (edge (point column row) 0) map₀ out₀ map' (set out used (point x y)) (used + 1) sum x' y' d'
      pub nearer : left_after side (edge (point column row) 0) map₀ x' y' d' < left_after side (edge (point column row) 0) map₀ x y d

    pub row_done : {map' : List ℕ} {x' y' d' : ℕ} → d % 2 ≡ 0 → Gone 0 side r map x y d map' x' y' d' → ColumnDue map' x' y' d'
    row_done {map'} {x'} {y'} {d'} even gone =
        let t = one_corner_more (used + 1) refl gone in
        let odd : d' % 2 ≡ 1 = omega (arith, gone.turned) in
        let elsewhere : 4 * (512 * y' + x') + d' ≢ 4 * (512 * row + column) = λ h. omega arith in
        record { odd = odd; due = t.again (no_leg sum x y y' (t.level even)) elsewhere; nearer = t.shorter elsewhere }
