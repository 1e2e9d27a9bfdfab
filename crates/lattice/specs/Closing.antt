-- The walk around a cycle form closes: its edges stand one after the other from the first corner back to it.
use Rattle.std.specs.Prelude.{◌≡◌, ℕ, zero, suc, ◌<◌, Bool, true, not, List, [], ◌∷◌, ◌++◌}
use Rattle.std.proofs.Math.Path.{refl}
use Rattle.std.proofs.Common.{append-nil}
use Rattle.lattice.specs.Directions.{move, head}
use Rattle.lattice.specs.Walks.{run, straight, walk_from, outline}
use Rattle.lattice.specs.Straight.{far, OnGrid, far-zero, far-first, on_grid_first, on_grid_one}
use Rattle.lattice.specs.Corners.{Walk}
use Rattle.lattice.specs.CycleForm.{inside, all_inside, by_turns, cycle_form}
use Rattle.lattice.specs.Legs.{heading, distance, Leg, straight_is}
use Rattle.lattice.specs.Outlines.{tail-edge, digit-edge, first_step, last_step, round}

-- A run, and then the rest of the walk.
pub walk-run : (d k p : ℕ) (es : List ℕ) (close : ℕ) → d < 4 → OnGrid d k p → Walk (far d k p) es close → Walk p (run d k p ++ es) close
unfolding run Walk head
walk-run d zero p es close h r w = rw far-zero at w
walk-run d (suc k) p es close h r w =
    let t = tail-edge p d h in
    let g = digit-edge p d h in (
      t,
      rw (t, g) (on_grid_one d k p r),
      rw (t, g) (walk-run d k (move d p) es close h (on_grid_first d k p r) (rw (far-first d k p r) w)),
    )

walk_leg : (x : Bool) (p q : ℕ) (es : List ℕ) (close : ℕ) → Leg x p q → Walk q es close → Walk p (straight p q ++ es) close
walk_leg x p q es close g w = rw straight_is (walk-run (heading p q) (distance p q) p es close g.digit-below g.room (rw g.arrives w))

walk-closes : (qs : List ℕ) (x : Bool) (p first : ℕ) → inside p ≡ true → inside first ≡ true → all_inside qs ≡ true → by_turns x p qs first ≡ true
    → Walk p (walk_from p qs first) first
unfolding walk_from
walk-closes [] x p first hp hf hs h = rw append-nil at (walk_leg x p first [] first (last_step x p first hp hf h).1 (here first))
  where
    here : (q : ℕ) → Walk q [] q
    here q = unfold Walk in refl
walk-closes (q ∷ qs) x p first hp hf hs h =
    let f = first_step x p q qs first hp hs h in
    walk_leg x p q (walk_from q qs first) first f.step (walk-closes qs (not x) q first f.there hf f.others f.onward)

pub outline-closes : (c : ℕ) (cs : List ℕ) → cycle_form (c ∷ cs) ≡ true → Walk c (outline (c ∷ cs)) c
unfolding outline
outline-closes c cs h =
    let r = round c cs h in
    walk-closes cs true c c r.here r.here r.others r.turning
