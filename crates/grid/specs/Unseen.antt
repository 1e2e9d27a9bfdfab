-- Going through the pixels of a region by rising codes: the cycle through a north side started at this pixel or before, and a start
-- lies on no cycle that started before.
use Rattle.std.specs.Prelude.{◌≡◌, refl, List, ℕ, suc, ◌^◌, ◌≤◌, ◌<◌, get_or}
use Rattle.std.proofs.Common.{sym}
use Rattle.std.proofs.Math.Path.{subst}
use native.Mathlib.Omega.{arith}
use Rattle.orbits.specs.Members.{In}
use Rattle.grid.specs.Map.{region_at}
use Rattle.grid.specs.Steps.{Edge}
use Rattle.grid.specs.Cycles.{north_side, cycle}
use Rattle.grid.specs.North.{north-digit, north-code}
use Rattle.grid.specs.Starting.{StartAt, Started, some_start, one_start}
use Rattle.grid.specs.Closing.{cycle-first}

-- The north side of the pixel with the code c lies on the cycle that starts at the pixel with the code d.
pub record OnCycleOf (n : ℕ) (nums : List ℕ) (d c : ℕ) : Type 0 where
  pub starts : StartAt n nums d
  pub stands : In (north_side n c) (cycle n nums d)

module _ (n : ℕ) (nums : List ℕ) (small : n ≤ 8) where
  abbrev m : ℕ → ℕ → ℕ
  m = region_at n nums

  -- A cycle holds the edge it is taken from.
  pub first_in_cycle : (c : ℕ) → In (north_side n c) (cycle n nums c)
  unfolding cycle
  first_in_cycle c = subst (In (north_side n c)) (sym (cycle-first m (north_side n c))) (0, omega arith, refl)

  -- The start of the cycle through a north side has the same region and no larger code.
  pub record Origin (c : ℕ) : Type 0 where
    pub start : ℕ
    pub on : OnCycleOf n nums start c
    pub number : get_or nums start 0 ≡ get_or nums c 0
    pub not_above : start ≤ c

  pub origin : (c : ℕ) → c < 4 ^ n → Edge m (suc (get_or nums c 0)) (north_side n c) → Origin c
  origin c h e =
      let s : Started n nums small (suc (get_or nums c 0)) (north_side n c) = some_start n nums small (suc (get_or nums c 0)) (north_side n c) e in
      record {
        start = s.start;
        on = record { starts = s.starts; stands = s.on_cycle };
        number = omega (arith, s.number);
        not_above = subst (λ x. s.start ≤ x) (north-code n c small h) (s.starts.least (north_side n c) s.on_cycle (north-digit n c));
      }

  -- A start lies on no cycle that starts elsewhere.
  pub start_unseen : (c : ℕ) → StartAt n nums c → (d : ℕ) → OnCycleOf n nums d c → d ≡ c
  start_unseen c s d o = one_start n nums small d c (north_side n c) o.starts s o.stands (first_in_cycle c)
