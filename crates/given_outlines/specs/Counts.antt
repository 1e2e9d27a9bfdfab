-- Lists as long as the counts that come in with them: then the outlines up to the counts are what is given.
use Rattle.std.specs.Prelude.{◌≡◌, List, ℕ, ◌≤◌, take}
use Rattle.std.proofs.Math.Path.{sym, ap}
use Rattle.std.proofs.Common.{◌∙◌, arith, length-take}
use Rattle.std.proofs.Math.ListN.{length}
use Rattle.std.proofs.Math.Seq.{length-take-le}
use Rattle.grid.specs.Listing.{corner_count}
use Rattle.grid.specs.Stretches.{length-owners, length-ends}
use Rattle.links.specs.Image.{image_outlines}
use Rattle.given_outlines.specs.Given.{Given, up_to_counts, HasOutlines, HasGiven}

-- ".. counts that don't agree with each other have no such image either": no list is shorter than its count.
pub record CountsFit (g : Given) : Type 0 where
  pub for_owners : g.cycle_total ≤ length g.lists.owner_list
  pub for_ends : g.cycle_total ≤ length g.lists.end_list
  pub for_corners : g.corner_total ≤ length g.lists.corner_list
  pub for_colours : g.region_total ≤ length g.lists.colour_list

-- A list that reaches a count.
reaches : (k : ℕ) (l : List ℕ) → length (take k l) ≡ k → k ≤ length l
reaches k l h = omega (arith, length-take k l)

module _ {n : ℕ} {g : Given} {px : List ℕ} where
  -- What an image has fits.
  pub given_fits : HasGiven n g px → CountsFit g
  unfolding corner_count
  given_fits h =
      let o = h.same_up_to_counts in
      record {
        for_owners = reaches _ _ (sym (ap length o.owners_are) ∙ length-owners (image_outlines n px) ∙ h.cycle-count);
        for_ends = reaches _ _ (sym (ap length o.ends_are) ∙ length-ends (image_outlines n px) ∙ h.cycle-count);
        for_corners = reaches _ _ (sym (ap length o.corners_are) ∙ h.corner-count);
        for_colours = reaches _ _ (sym o.a_colour_each_lem ∙ h.region-count);
      }

  -- Where the counts fit, an image that has the outlines up to them has what is given.
  pub fitting_given : CountsFit g → HasOutlines n (up_to_counts g) px → HasGiven n g px
  unfolding corner_count
  fitting_given f o = record {
    region-count = o.a_colour_each_lem ∙ length-take-le _ _ f.for_colours;
    cycle-count = sym (length-owners (image_outlines n px)) ∙ ap length o.owners_are ∙ length-take-le _ _ f.for_owners;
    corner-count = ap length o.corners_are ∙ length-take-le _ _ f.for_corners;
    same_up_to_counts = o;
  }

-- As many owners as ends.
pub owners_as_ends : {g : Given} → CountsFit g → length (up_to_counts g).owner_list ≡ length (up_to_counts g).end_list
owners_as_ends f = length-take-le _ _ f.for_owners ∙ sym (length-take-le _ _ f.for_ends)
