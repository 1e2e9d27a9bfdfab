-- The children of each number counted: what the loop asks and gives, of every forest that the work list holds from `whole` on.
use Rattle.std.specs.Prelude.{◌≡◌, refl, List, [], ℕ, suc, ◌+◌, ◌≤◌, ◌<◌, length, get_or, set}
use Rattle.std.proofs.Common.{◌∙◌, arith, length-set, get_or-set_other}
use Rattle.forests.specs.Forest.{ParentsBelow}
use Rattle.forests.specs.WorkList.{ParentsFrom}
use Rattle.forests.specs.Arranging.{Held}
use Rattle.forests.specs.Counting.{Counting, counting_begins, counting_ends, counting_root, counting_child, counted_parent_lower, count_small}

-- The parents of the numbers below `count`, which are smaller, and a blank entry for each number in front.
pub record Forested (whole count : ℕ) (up : ℕ → ℕ) (w : List ℕ) : Type 0 where
  pub low : ParentsBelow count up
  pub parents : ParentsFrom count whole up w
  pub zeros : (p : ℕ) → p < count → get_or w p 0 ≡ 0

-- Only entries below k are written to.
pub record FrontWritten (k : ℕ) (w w' : List ℕ) : Type 0 where
  pub long : length w' ≡ length w
  pub kept : (j : ℕ) → k ≤ j → get_or w' j 0 ≡ get_or w j 0

pub front_same : {k : ℕ} {w : List ℕ} → FrontWritten k w w
front_same = record { long = refl; kept = λ j h. refl }

pub front_then : {j k l : ℕ} {w w' w'' : List ℕ} → j ≤ l → k ≤ l → FrontWritten j w w' → FrontWritten k w' w'' → FrontWritten l w w''
front_then g h a b = record { long = b.long ∙ a.long; kept = λ i l. b.kept i (omega arith) ∙ a.kept i (omega arith) }

pub front-set : {k : ℕ} {w : List ℕ} (p x : ℕ) → p < k → FrontWritten k w (set w p x)
front-set {k} {w} p x h = record { long = length-set w p x; kept = λ j l. get_or-set_other w p j x 0 (omega arith) }

-- ---- one number

pub record CanCountOne (whole : ℕ) (w : List ℕ) (v : ℕ) : Type 0 where
  pub N : ℕ
  pub up : ℕ → ℕ
  pub low : ParentsBelow N up
  pub counting : Counting N whole up v w
  pub below : v < N
  pub small : whole ≤ 65536

pub record CountedOne (whole v : ℕ) (w w' : List ℕ) : Type 0 where
  pub counting : (N : ℕ) (up : ℕ → ℕ) → ParentsBelow N up → v < N → Counting N whole up v w → Counting N whole up (v + 1) w'
  pub front : FrontWritten v w w'

module _ {whole v : ℕ} {w : List ℕ} (can : CanCountOne whole w v) where
  pub parent_place : (whole + v < length w) × (v < whole)
  parent_place = (omega (arith, can.below, can.counting.parents.room), omega (arith, can.below, can.counting.parents.apart))

  pub root_counted : get_or w (whole + v) 0 ≡ 0 → CountedOne whole v w w
  root_counted z = record { counting = λ N up low h s. counting_root h s z; front = front_same }

  module _ {p : ℕ} (above : get_or w (whole + v) 0 ≡ suc p) where
    -- The entry of the parent, and that its count leaves room for one more.
    pub count-place : (p < v) × (p < length w) × (get_or w p 0 < 65536)
    count-place =
        let l : p < v = counted_parent_lower can.below can.counting can.low p above in
        (l, omega (arith, parent_place), omega (arith, count_small can.below can.counting can.low p above, parent_place, can.small))

    pub child_counted : CountedOne whole v w (set w p (get_or w p 0 + 1))
    child_counted = record {
      counting = λ N up low h s. counting_child h s low p above;
      front = front-set p (get_or w p 0 + 1) count-place.0;
    }

-- ---- all numbers

pub record CanCount (whole count : ℕ) (w : List ℕ) : Type 0 where
  pub up : ℕ → ℕ
  pub forest : Forested whole count up w
  pub small : whole ≤ 65536

pub record Counted (whole count : ℕ) (w w' : List ℕ) : Type 0 where
  pub held : (up : ℕ → ℕ) → Forested whole count up w → Held count whole up [] w'
  pub front : FrontWritten count w w'

-- The numbers below v are counted.
pub record CountedTo (whole count : ℕ) (w₀ w : List ℕ) (v : ℕ) : Type 0 where
  pub counting : (up : ℕ → ℕ) → Forested whole count up w₀ → Counting count whole up v w
  pub front : FrontWritten count w₀ w

pub counted_none : {whole count : ℕ} {w : List ℕ} → CountedTo whole count w w 0
counted_none = record { counting = λ up f. counting_begins f.parents f.zeros; front = front_same }

module _ {whole count : ℕ} {w₀ w : List ℕ} {v : ℕ} (can : CanCount whole count w₀) (s : CountedTo whole count w₀ w v) where
  pub can_count_one : v < count → CanCountOne whole w v
  can_count_one h = record {
    N = count;
    up = can.up;
    low = can.forest.low;
    counting = s.counting can.up can.forest;
    below = h;
    small = can.small;
  }

  pub counted_more : {w' : List ℕ} → v < count → CountedOne whole v w w' → CountedTo whole count w₀ w' (v + 1)
  counted_more h c = record { counting = λ up f. c.counting count up f.low h (s.counting up f); front = front_then (omega arith) (omega arith) s.front c.front }

  pub counted_all : count ≤ v → Counted whole count w₀ w
  counted_all h = record {
    held = λ up f. record { low = f.low; parents = (s.counting up f).parents; counts = counting_ends h (s.counting up f) };
    front = s.front;
  }
