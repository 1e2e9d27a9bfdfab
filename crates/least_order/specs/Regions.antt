-- The order of all regions: their parents are found, the children are counted, the order is written, and the work list is cleared.
use Rattle.std.specs.Prelude.{◌≡◌, List, ℕ, ◌+◌, ◌*◌, ◌^◌, ◌≤◌, ◌<◌, length, get_or}
use Rattle.std.proofs.Common.{◌∙◌, arith}
use Rattle.sequences.specs.Fill.{fill}
use Rattle.sequences.specs.Over.{over}
use Rattle.location.specs.Levels.{pixels_of}
use Rattle.quadtree.specs.Blocks.{blocks, paint}
use Rattle.forests.specs.LeastOrder.{least_order}
use Rattle.surrounding.specs.Parents.{parent_of}
use Rattle.parents.specs.Promise.{RegionsNumbered, ParentsFound}
use Rattle.parents.specs.Forest.{parents_are, parents_lower, RegionsFit, regions_fit, cleared}
use Rattle.least_order.specs.Counts.{Forested, CanCount, Counted, FrontWritten, front_then}
use Rattle.least_order.specs.Arranged.{CanArrange, Arranged}

-- Numbered regions, an order list with room for them, and a work list that is blank as far as it is needed.
pub record Arrangeable (n count : ℕ) (codes levels labels work order : List ℕ) : Type 0 where
  pub numbered : RegionsNumbered n count codes levels labels work
  pub room : count ≤ length order
  pub zeros : (j : ℕ) → j < 2 * 4 ^ n → get_or work j 0 ≡ 0

-- The least order stands in the order list, and the work list is as it was.
pub record OrderWritten (n count : ℕ) (codes levels labels work order work' order' : List ℕ) : Type 0 where
  pub in_order : order' ≡ over (least_order count (parent_of n (paint (blocks codes levels labels)))) order
  pub same : work' ≡ work

module _ {n count : ℕ} {codes levels labels work order : List ℕ} (ok : Arrangeable n count codes levels labels work order)
    {whole : ℕ} (size : whole ≡ pixels_of n) {found : List ℕ} (p : ParentsFound n count codes levels labels work found) where
  abbrev up : ℕ → ℕ
  up = parent_of n (paint (blocks codes levels labels))

  fit : RegionsFit ok.numbered p size
  fit = regions_fit ok.numbered p size

  forested : Forested whole count up found
  forested = record {
    low = parents_lower ok.numbered;
    parents = record { apart = fit.low; room = fit.room; holds = parents_are ok.numbered p size };
    zeros = p.blank;
  }

  pub can_count : CanCount whole count found
  can_count = record { up = up; forest = forested; small = fit.small }

  module _ {counted : List ℕ} (c : Counted whole count found counted) where
    pub can_arrange : CanArrange whole count counted order
    can_arrange = record { up = up; held = c.held up forested; room = ok.room; small = fit.small }

    module _ {used order' : List ℕ} (a : Arranged whole count counted order used order') where
      pub clear_room : (whole + count ≤ 131072) × (0 + (whole + count) ≤ length used)
      clear_room = (omega (arith, fit.low, fit.small), omega (arith, a.front.long, c.front.long, fit.room))

      pub order_written : {work' : List ℕ} → work' ≡ fill used 0 (whole + count) 0 → OrderWritten n count codes levels labels work order work' order'
      order_written e =
          let f : FrontWritten count found used = front_then (omega arith) (omega arith) c.front a.front in
          record {
            in_order = a.in_order up (c.held up forested);
            same = e ∙ cleared ok.numbered p size used ok.zeros f.long (λ j h. f.kept j (omega arith));
          }
