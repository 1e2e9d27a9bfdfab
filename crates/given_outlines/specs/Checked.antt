-- What a check in passes asks of a list of numbers, and that it is passed exactly where an image has the outlines.
use Rattle.std.specs.Prelude.{◌≡◌, List, ℕ, ◌^◌, ◌≤◌, ◌<◌, length, get_or}
use Rattle.std.proofs.Math.Path.{sym, ap, subst}
use Rattle.std.proofs.Common.{◌∙◌}
use Rattle.components.specs.Numbers.{numbers, regions}
use Rattle.components.proofs.Numbered.{number-below-regions}
use Rattle.grid.specs.Listing.{listing}
use Rattle.given_outlines.specs.Given.{Outlines, HasOutlines, coloured, cycles_of, cycles_are_outlines}
use Rattle.given_outlines.specs.Candidate.{numbers_from, candidate}
use Rattle.given_outlines.specs.Complete.{numbers_are_told, image_is_candidate}
use Rattle.given_outlines.specs.Agreeing.{Agreeing, lists_agree, cycles_suffice}
use Rattle.given_outlines.specs.Starts.{EachFromItsStart, listing_exactly}

-- The lists agree with each other; the numbers are the region numbers of the image that they and the colours make, which has one region a
-- colour; and the cycles are the outlines of the numbered image, each from its start.
pub record Checks (n : ℕ) (o : Outlines) (nums : List ℕ) : Type 0 where
  pub agree : Agreeing o.owner_list o.end_list o.corner_list
  pub numbered : numbers n (coloured o.colour_list nums) ≡ nums
  pub region-count : regions n (coloured o.colour_list nums) ≡ length o.colour_list
  pub cycles : EachFromItsStart n nums (cycles_of o)

module _ {n : ℕ} {o : Outlines} (small : n ≤ 8) where
  pub checked_has : {nums : List ℕ} → Checks n o nums → HasOutlines n o (coloured o.colour_list nums)
  checked_has {nums} c =
      cycles_suffice c.agree
      (ap (λ l. listing n l (regions n px)) c.numbered ∙ sym ((listing_exactly n nums (regions n px) small known (cycles_of o)).1 c.cycles))
      c.region-count
      (ap (coloured o.colour_list) (sym c.numbered))
    where
      px : List ℕ
      px = coloured o.colour_list nums

      known : (i : ℕ) → i < 4 ^ n → get_or nums i 0 < regions n px
      known i h = subst (λ l. get_or l i 0 < regions n px) c.numbered (number-below-regions n px i h)

  -- The numbers that the cycles tell pass, where an image has the outlines.
  pub has_checked : {px : List ℕ} → HasOutlines n o px → Checks n o (numbers_from n (cycles_of o))
  unfolding candidate
  has_checked {px} h = record {
    agree = lists_agree h;
    numbered = ap (numbers n) image ∙ sym told;
    region-count = ap (regions n) image ∙ h.a_colour_each_lem;
    cycles =
        subst (λ l. EachFromItsStart n l (cycles_of o)) (sym told)
        ((listing_exactly n (numbers n px) (regions n px) small (number-below-regions n px) (cycles_of o)).0 (cycles_are_outlines h));
  }
    where
      told : numbers_from n (cycles_of o) ≡ numbers n px
      told = numbers_are_told small h

      image : coloured o.colour_list (numbers_from n (cycles_of o)) ≡ px
      image = image_is_candidate small h
