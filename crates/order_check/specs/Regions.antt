-- The order of all regions judged by their parents: these are found, the order is walked along, and the work list is cleared.
use Rattle.std.specs.Prelude.{◌≡◌, refl, Bool, List, ℕ, ◌+◌, ◌*◌, ◌^◌, ◌≤◌, ◌<◌, length, get_or}
use Rattle.std.proofs.Common.{sym, ◌∙◌, arith}
use Rattle.sequences.specs.Fill.{fill}
use Rattle.location.specs.Levels.{pixels_of}
use Rattle.quadtree.specs.Blocks.{blocks, paint}
use Rattle.forests.specs.Orders.{EachOnce}
use Rattle.forests.specs.Checking.{is_children_first}
use Rattle.forests.specs.Agreeing.{parents_below_same, test_same}
use Rattle.surrounding.specs.Parents.{parent_of}
use Rattle.parents.specs.Promise.{RegionsNumbered, ParentsFound}
use Rattle.parents.specs.Forest.{parents_are, parents_lower, RegionsFit, regions_fit, cleared}
use Rattle.order_check.specs.Along.{Families, parents_in, LaterMarked}

-- Numbered regions, an order that is each of them once, and a work list that is blank as far as it is needed.
pub record Orderable (n : ℕ) (codes levels labels order work : List ℕ) : Type 0 where
  pub numbered : RegionsNumbered n (length order) codes levels labels work
  pub once : EachOnce (length order) order
  pub zeros : (j : ℕ) → j < 2 * 4 ^ n → get_or work j 0 ≡ 0

-- The answer tells whether each region comes before its parent, and the work list is as it was.
pub record Judged (n : ℕ) (codes levels labels order work work' : List ℕ) (r : Bool) : Type 0 where
  pub tested : r ≡ is_children_first (parent_of n (paint (blocks codes levels labels))) order
  pub same : work' ≡ work

module _ {n : ℕ} {codes levels labels order work : List ℕ} (ok : Orderable n codes levels labels order work)
    {whole : ℕ} (size : whole ≡ pixels_of n) {found : List ℕ} (p : ParentsFound n (length order) codes levels labels work found) where
  pub families : Families whole order found
  families = record {
    blank = record {
      room = omega (arith, f.low, f.room);
      zeros = p.blank;
    };
    small = f.small;
    apart = f.low;
    room = f.room;
    lower = parents_below_same (length order) (parent_of n (paint (blocks codes levels labels))) (parents_in whole found)
        (λ v h. sym (parents_are ok.numbered p size v h)) (parents_lower ok.numbered);
    below = λ i h. ok.once.below (get_or order i 0) (i, h, refl);
  }
    where
      f : RegionsFit ok.numbered p size
      f = regions_fit ok.numbered p size

  module _ {marked : List ℕ} {r : Bool} (m : LaterMarked whole order found marked r) where
    pub clear_room : (whole + length order ≤ 131072) × (0 + (whole + length order) ≤ length marked)
    clear_room = let f = regions_fit ok.numbered p size in (omega (arith, f.low, f.small), omega (arith, m.long, f.room))

    pub judged : {work' : List ℕ} → work' ≡ fill marked 0 (whole + length order) 0 → Judged n codes levels labels order work work' r
    unfolding is_children_first
    judged e = record {
      tested = m.tested
          ∙ test_same (length order) (parents_in whole found) (parent_of n (paint (blocks codes levels labels))) (λ v h. parents_are ok.numbered p size v h)
          families.lower order ok.once;
      same = e ∙ cleared ok.numbered p size marked ok.zeros m.long (λ j h. m.beyond j (omega arith));
    }
