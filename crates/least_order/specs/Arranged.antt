-- The least order written: what the loops ask and give, of every forest whose parents and numbers of missing children the work list holds.
use Rattle.std.specs.Prelude.{◌≡◌, refl, ◌≢◌, ℕ, suc, ◌+◌, ◌-◌, ◌≤◌, ◌<◌, length, get_or, set}
use Rattle.std.proofs.Math.Path.{sym, ap}
use Rattle.std.proofs.Common.{◌∙◌, subst, arith, length-set, take-append-drop, take-suc-set, drop-set-lt, drop-drop, length-take-le}
use mathlib.Core.List.{List, [], ◌∷◌, ◌++◌}
use Rattle.std.proofs.Math.ListN.{take, drop}
use Rattle.sequences.specs.Over.{over}
use Rattle.forests.specs.LeastOrder.{least_order}
use Rattle.forests.specs.Arranging.{Held, Arranging, Rising, arranging_begins, arranging_ends, arranging_passes, arranging_rises, rising_below, rising_fits, rising_ends, rising_falls, rising_counted, rising_waits, rising_goes_on}
use Rattle.least_order.specs.Counts.{FrontWritten, front_same, front_then, front-set}

-- The order list from the place k on is as it was.
pub record UpTo (order₀ order : List ℕ) (k : ℕ) : Type 0 where
  pub within : k ≤ length order
  pub long : length order ≡ length order₀
  pub beyond : drop k order ≡ drop k order₀

up_to_self : {order : List ℕ} {k : ℕ} → k ≤ length order → UpTo order order k
up_to_self h = record { within = h; long = refl; beyond = refl }

up_to_more : {order₀ order order' : List ℕ} {j k : ℕ} → j ≤ k → UpTo order₀ order j → UpTo order order' k → UpTo order₀ order' k
up_to_more {order₀} {order} {order'} {j} {k} h a b =
    let e : j + (k - j) ≡ k = omega arith in
    record {
      within = b.within;
      long = b.long ∙ a.long;
      beyond =
          b.beyond ∙ ap (λ (i : ℕ). drop i order) (sym e) ∙ sym (drop-drop (k - j) j order) ∙ ap (drop (k - j)) a.beyond ∙ drop-drop (k - j) j order₀
          ∙ ap (λ (i : ℕ). drop i order₀) e;
    }

up_to_set : {order : List ℕ} {k : ℕ} (u : ℕ) → k < length order → UpTo order (set order k u) (k + 1)
up_to_set {order} {k} u h = record {
  within = omega (arith, length-set order k u);
  long = length-set order k u;
  beyond = drop-set-lt (k + 1) order k u (omega arith);
}

-- ---- the way up from v

-- v is to be written at the place `at`; what stands before it is written.
pub record CanRise (whole v at : ℕ) (work order : List ℕ) : Type 0 where
  pub N : ℕ
  pub up : ℕ → ℕ
  pub rising : Rising N whole up v v (take at order) work
  pub room : N ≤ length order
  pub within : at ≤ length order
  pub small : whole ≤ 65536

-- u is to be written at the place k.
pub record Rises (whole v at : ℕ) (work₀ order₀ work order : List ℕ) (u k : ℕ) : Type 0 where
  pub rising : (N : ℕ) (up : ℕ → ℕ) → Rising N whole up v v (take at order₀) work₀ → Rising N whole up v u (take k order) work
  pub grows : at ≤ k
  pub in_order : UpTo order₀ order k
  pub front : FrontWritten v work₀ work

-- The way up is written, up to the place k.
pub record Risen (whole v at : ℕ) (work₀ order₀ work order : List ℕ) (k : ℕ) : Type 0 where
  pub arranging : (N : ℕ) (up : ℕ → ℕ) → Rising N whole up v v (take at order₀) work₀ → Arranging N whole up (v + 1) (take k order) work
  pub grows : at ≤ k
  pub in_order : UpTo order₀ order k
  pub front : FrontWritten v work₀ work

pub rises_begins : {whole v at : ℕ} {work order : List ℕ} → CanRise whole v at work order → Rises whole v at work order work order v at
rises_begins can = record { rising = λ N up s. s; grows = omega arith; in_order = up_to_self can.within; front = front_same }

-- A number that is 1 plus a parent.
pub one_above : {x p : ℕ} → (1 ≤ x) × (p ≡ x - 1) → x ≡ suc p
one_above h = omega arith

module _ {whole v at : ℕ} {work₀ order₀ work order : List ℕ} {u k : ℕ} (can : CanRise whole v at work₀ order₀)
    (s : Rises whole v at work₀ order₀ work order u k) where
  now_rising : Rising can.N whole can.up v u (take k order) work
  now_rising = s.rising can.N can.up can.rising

  pub place-free : k < length order
  place-free = omega (arith, rising_fits now_rising, length-take-le k order s.in_order.within, can.room, s.in_order.long)

  pub number_small : (u < whole) × (whole ≤ 65536)
  number_small = (omega (arith, rising_below now_rising, now_rising.held.parents.apart), can.small)

  pub parent_within_lem : whole + u < length work
  parent_within_lem = omega (arith, rising_below now_rising, now_rising.held.parents.room)

  stored : take k order ++ (u ∷ []) ≡ take (k + 1) (set order k u)
  stored =
      let e : suc k ≡ k + 1 = omega arith in
      sym (take-suc-set order k u place-free) ∙ ap (λ (j : ℕ). take j (set order k u)) e

  one_more : UpTo order₀ (set order k u) (k + 1)
  one_more = up_to_more (omega arith) s.in_order (up_to_set u place-free)

  -- u has no parent.
  pub risen_at_root : get_or work (whole + u) 0 ≡ 0 → Risen whole v at work₀ order₀ work (set order k u) (k + 1)
  risen_at_root e = record {
    arranging = λ N up r. subst (λ (l : List ℕ). Arranging N whole up (v + 1) l work) stored (rising_ends (s.rising N up r) e);
    grows = omega (arith, s.grows);
    in_order = one_more;
    front = s.front;
  }

  module _ (p : ℕ) (e : get_or work (whole + u) 0 ≡ suc p) where
    pub parent_falls : p < u
    parent_falls = rising_falls now_rising p e

    pub count_within : p < length work
    count_within = omega (arith, parent_falls, parent_within_lem)

    pub parent_counted : 0 < get_or work p 0
    parent_counted = rising_counted now_rising p e

    counted : FrontWritten v work₀ (set work p (get_or work p 0 - 1))
    counted =
        let one : FrontWritten v work (set work p (get_or work p 0 - 1)) = front-set p (get_or work p 0 - 1) (omega (arith, parent_falls, now_rising.climbing.no_higher)) in
        front_then (omega arith) (omega arith) s.front one

    -- Other children of its parent are missing.
    pub risen_to_wait : get_or (set work p (get_or work p 0 - 1)) p 0 ≢ 0 → Risen whole v at work₀ order₀ (set work p (get_or work p 0 - 1)) (set order k u) (k + 1)
    risen_to_wait n = record {
      arranging = λ N up r. subst (λ (l : List ℕ). Arranging N whole up (v + 1) l (set work p (get_or work p 0 - 1))) stored (rising_waits (s.rising N up r) p e n);
      grows = omega (arith, s.grows);
      in_order = one_more;
      front = counted;
    }

    -- None is: the parent is next.
    pub rises_on : get_or (set work p (get_or work p 0 - 1)) p 0 ≡ 0 → Rises whole v at work₀ order₀ (set work p (get_or work p 0 - 1)) (set order k u) p (k + 1)
    rises_on z = record {
      rising = λ N up r. subst (λ (l : List ℕ). Rising N whole up v p l (set work p (get_or work p 0 - 1))) stored (rising_goes_on (s.rising N up r) p e z);
      grows = omega (arith, s.grows);
      in_order = one_more;
      front = counted;
    }

-- ---- the number v, written or passed over

pub record CanPlace (whole v at : ℕ) (work order : List ℕ) : Type 0 where
  pub N : ℕ
  pub up : ℕ → ℕ
  pub arranging : Arranging N whole up v (take at order) work
  pub below : v < N
  pub room : N ≤ length order
  pub within : at ≤ length order
  pub small : whole ≤ 65536

pub record Placed (whole v at : ℕ) (work₀ order₀ work order : List ℕ) (k : ℕ) : Type 0 where
  pub arranging : (N : ℕ) (up : ℕ → ℕ) → v < N → Arranging N whole up v (take at order₀) work₀ → Arranging N whole up (v + 1) (take k order) work
  pub grows : at ≤ k
  pub in_order : UpTo order₀ order k
  pub front : FrontWritten v work₀ work

module _ {whole v at : ℕ} {work order : List ℕ} (can : CanPlace whole v at work order) where
  pub number_within : v < length work
  number_within = omega (arith, can.below, can.arranging.held.counts.long)

  pub passed_over : get_or work v 0 ≢ 0 → Placed whole v at work order work order at
  passed_over n = record { arranging = λ N up h s. arranging_passes s h n; grows = omega arith; in_order = up_to_self can.within; front = front_same }

  pub can_rise : get_or work v 0 ≡ 0 → CanRise whole v at work order
  can_rise z = record {
    N = can.N;
    up = can.up;
    rising = arranging_rises can.arranging can.below z;
    room = can.room;
    within = can.within;
    small = can.small;
  }

pub placed_by_rising : {whole v at : ℕ} {work₀ order₀ work order : List ℕ} {k : ℕ} → get_or work₀ v 0 ≡ 0 → Risen whole v at work₀ order₀ work order k
    → Placed whole v at work₀ order₀ work order k
placed_by_rising z s = record { arranging = λ N up h a. s.arranging N up (arranging_rises a h z); grows = s.grows; in_order = s.in_order; front = s.front }

-- ---- all numbers

pub record CanArrange (whole count : ℕ) (work order : List ℕ) : Type 0 where
  pub up : ℕ → ℕ
  pub held : Held count whole up [] work
  pub room : count ≤ length order
  pub small : whole ≤ 65536

pub record Arranged (whole count : ℕ) (work order work' order' : List ℕ) : Type 0 where
  pub in_order : (up : ℕ → ℕ) → Held count whole up [] work → order' ≡ over (least_order count up) order
  pub front : FrontWritten count work work'

-- Before the number v, where `at` entries are written.
pub record ArrangedTo (whole count : ℕ) (work₀ order₀ work order : List ℕ) (at v : ℕ) : Type 0 where
  pub arranging : (up : ℕ → ℕ) → Held count whole up [] work₀ → Arranging count whole up v (take at order) work
  pub in_order : UpTo order₀ order at
  pub front : FrontWritten count work₀ work

pub arranged_none : {whole count : ℕ} {work order : List ℕ} → ArrangedTo whole count work order work order 0 0
arranged_none = record { arranging = λ up h. arranging_begins h; in_order = up_to_self (omega arith); front = front_same }

module _ {whole count at v : ℕ} {work₀ order₀ work order : List ℕ} (can : CanArrange whole count work₀ order₀)
    (s : ArrangedTo whole count work₀ order₀ work order at v) where
  pub can_place : v < count → CanPlace whole v at work order
  can_place h = record {
    N = count;
    up = can.up;
    arranging = s.arranging can.up can.held;
    below = h;
    room = omega (arith, can.room, s.in_order.long);
    within = s.in_order.within;
    small = can.small;
  }

  pub arranged_more : {work' order' : List ℕ} {k : ℕ} → v < count → Placed whole v at work order work' order' k
      → ArrangedTo whole count work₀ order₀ work' order' k (v + 1)
  arranged_more h p = record {
    arranging = λ up g. p.arranging count up h (s.arranging up g);
    in_order = up_to_more p.grows s.in_order p.in_order;
    front = front_then (omega arith) (omega arith) s.front p.front;
  }

  pub arranged_all : count ≤ v → Arranged whole count work₀ order₀ work order
  unfolding over
  arranged_all h = record {
    in_order = λ up g.
        sym (take-append-drop at order) ∙ ap (λ (l : List ℕ). take at order ++ l) s.in_order.beyond
        ∙ ap (λ (j : ℕ). take at order ++ drop j order₀) (sym (length-take-le at order s.in_order.within))
        ∙ ap (λ (l : List ℕ). over l order₀) (arranging_ends (s.arranging up g) h);
    front = s.front;
  }
