-- The answer: 0 where the candidate has the given outlines, else 18, and then no accepted list has them.
use Rattle.std.specs.Prelude.{◌≡◌, refl, ◌↔◌, Bool, false, not, ◌&&◌, List, [], ◌∷◌, ℕ, ◌≤◌, length}
use Rattle.std.proofs.Common.{sym, ap, ◌∙◌, subst, arith}
use Rattle.std.proofs.Math.Bool.{true}
use Rattle.std.proofs.lemmas.Bool.{false≢true}
use Rattle.std.proofs.Math.Dec.{eqb}
use borrow.Author.Tests.{eq-eqb, eqb-true}
use Rattle.sequences.specs.Cases.{when, and_both, both_and}
use Rattle.sequences.specs.Same.{same, same_exactly}
use Rattle.quadtree.specs.Blocks.{paint}
use Rattle.quadtree.specs.BlockLists.{BlockList, list_of, image_of}
use Rattle.quadtree.specs.Fields.{codes, levels, colours, blocks_of_fields}
use Rattle.quadtree.specs.Quadtree.{quadtree}
use Rattle.quadtree.specs.Painting.{paint-quadtree}
use Rattle.quadtree.specs.Accepted.{one_accepted_list, quadtree_accepted}
use Rattle.components.specs.Numbers.{numbers, regions}
use Rattle.grid.specs.Listing.{listing, owners, ends, all_corners, corner_count}
use Rattle.lattice.specs.Directions.{point}
use Rattle.stretches.specs.Stretch.{start_of, length_of, holds}
use Rattle.links.specs.Image.{image_outlines}
use Rattle.given_outlines.specs.Given.{Outlines, outline_lists, Given, given_as, up_to_counts, HasOutlines, HasGiven, ListHasGiven, coloured, image_size}
use Rattle.given_outlines.specs.Candidate.{candidate}
use Rattle.given_outlines.specs.Complete.{image_is_candidate, one_image}

-- ---- whether the image px has outlines and region colours: each field of `HasOutlines`, computed

module _ (n : ℕ) (o : Outlines) (px : List ℕ) where
  unfoldable owners_alike : Bool
  unfolding same owners listing
  owners_alike = same (owners (image_outlines n px)) o.owner_list

  unfoldable ends_alike : Bool
  unfolding same ends listing
  ends_alike = same (ends (image_outlines n px)) o.end_list

  unfoldable corners_alike : Bool
  unfolding same all_corners listing
  corners_alike = same (all_corners (image_outlines n px)) o.corner_list

  unfoldable a_colour_each : Bool
  unfolding regions
  a_colour_each = eqb (regions n px) (length o.colour_list)

  unfoldable colours_alike : Bool
  unfolding same coloured numbers
  colours_alike = same px (coloured o.colour_list (numbers n px))

  unfoldable pub has_outlines : Bool
  unfolding owners_alike ends_alike corners_alike a_colour_each colours_alike
  has_outlines = owners_alike && (ends_alike && (corners_alike && (a_colour_each && colours_alike)))

  pub outlines_exactly : (has_outlines ≡ true) ↔ HasOutlines n o px
  unfolding has_outlines
  outlines_exactly = (
    to,
    λ h. both_and owners_alike _ ((same_exactly _ _).1 h.owners_are) (both_and ends_alike _ ((same_exactly _ _).1 h.ends_are)
        (both_and corners_alike _ ((same_exactly _ _).1 h.corners_are)
        (both_and a_colour_each colours_alike (eq-eqb _ _ h.a_colour_each_lem) ((same_exactly _ _).1 h.colours_are)))),
  )
    where
      to : has_outlines ≡ true → HasOutlines n o px
      to h =
          let a = and_both owners_alike (ends_alike && (corners_alike && (a_colour_each && colours_alike))) h in
          let b = and_both ends_alike (corners_alike && (a_colour_each && colours_alike)) a.1 in
          let c = and_both corners_alike (a_colour_each && colours_alike) b.1 in
          let d = and_both a_colour_each colours_alike c.1 in
          record {
            owners_are = (same_exactly _ _).0 a.0;
            ends_are = (same_exactly _ _).0 b.0;
            corners_are = (same_exactly _ _).0 c.0;
            a_colour_each_lem = eqb-true _ _ d.0;
            colours_are = (same_exactly _ _).0 d.1;
          }

-- ---- the same with the counts that are given

module _ (n : ℕ) (g : Given) (px : List ℕ) where
  unfoldable regions_counted : Bool
  unfolding regions
  regions_counted = eqb (regions n px) g.region_total

  unfoldable cycles_counted : Bool
  unfolding listing
  cycles_counted = eqb (length (image_outlines n px)) g.cycle_total

  unfoldable corners_counted : Bool
  unfolding corner_count listing
  corners_counted = eqb (corner_count (image_outlines n px)) g.corner_total

  unfoldable pub has_given : Bool
  unfolding regions_counted cycles_counted corners_counted has_outlines
  has_given = regions_counted && (cycles_counted && (corners_counted && has_outlines n (up_to_counts g) px))

  pub given_exactly : (has_given ≡ true) ↔ HasGiven n g px
  unfolding has_given
  given_exactly = (
    to,
    λ h. both_and regions_counted _ (eq-eqb _ _ h.region-count) (both_and cycles_counted _ (eq-eqb _ _ h.cycle-count)
        (both_and corners_counted _ (eq-eqb _ _ h.corner-count) ((outlines_exactly n (up_to_counts g) px).1 h.same_up_to_counts))),
  )
    where
      to : has_given ≡ true → HasGiven n g px
      to h =
          let a = and_both regions_counted (cycles_counted && (corners_counted && has_outlines n (up_to_counts g) px)) h in
          let b = and_both cycles_counted (corners_counted && has_outlines n (up_to_counts g) px) a.1 in
          let c = and_both corners_counted (has_outlines n (up_to_counts g) px) b.1 in
          record {
            region-count = eqb-true _ _ a.0;
            cycle-count = eqb-true _ _ b.0;
            corner-count = eqb-true _ _ c.0;
            same_up_to_counts = (outlines_exactly n (up_to_counts g) px).0 c.1;
          }

-- The candidate of what is given.
abbrev pub candidate_of : ℕ → Given → List ℕ
candidate_of n g = candidate n (up_to_counts g)

-- The number answered past causes 1 and 8: 0 where the candidate has what is given, else "18 (no such image)".
unfoldable pub outlines_number : ℕ → Given → ℕ
unfolding has_given candidate when
outlines_number n g = when (not (has_given n g (candidate_of n g))) 18

-- Dial 1 with the colour 7 is given back; with an owner that is no region, with an end that breaks off, and with a colour too few, it is not.
dial1 : ℕ → ℕ → List ℕ → Given
unfolding point
dial1 owner end region_colours = given_as 1 1 4 (outline_lists (owner ∷ []) (end ∷ []) (point 0 0 ∷ point 1 0 ∷ point 1 1 ∷ point 0 1 ∷ []) region_colours)

dial_1_given_back : (candidate_of 0 (dial1 0 4 (7 ∷ [])) ≡ 7 ∷ []) × (outlines_number 0 (dial1 0 4 (7 ∷ [])) ≡ 0)
unfolding outlines_number dial1 start_of length_of holds
dial_1_given_back = (refl, refl)

dial_1_refused : (outlines_number 0 (dial1 1 4 (7 ∷ [])) ≡ 18) × (outlines_number 0 (dial1 0 3 (7 ∷ [])) ≡ 18) × (outlines_number 0 (dial1 0 4 []) ≡ 18)
unfolding outlines_number dial1 start_of length_of holds
dial_1_refused = (refl, refl, refl)

-- Dial 5, whose north and south rows are regions, is given back. With one colour for both, with its owners exchanged, with a region more than
-- it has, and with a corner more, there is no such image.
dial5 : ℕ → ℕ → List ℕ → List ℕ → Given
unfolding point
dial5 region_count corners owners region_colours = given_as region_count 2 corners (outline_lists owners (4 ∷ 8 ∷ [])
    (point 0 0 ∷ point 2 0 ∷ point 2 1 ∷ point 0 1 ∷ point 0 1 ∷ point 2 1 ∷ point 2 2 ∷ point 0 2 ∷ point 0 0 ∷ []) region_colours)

dial_5_given_back : (candidate_of 1 (dial5 2 8 (0 ∷ 1 ∷ []) (1 ∷ 2 ∷ 3 ∷ [])) ≡ 1 ∷ 1 ∷ 2 ∷ 2 ∷ []) × (outlines_number 1 (dial5 2 8 (0 ∷ 1 ∷ []) (1 ∷ 2 ∷ 3 ∷ [])) ≡ 0)
unfolding outlines_number dial5 start_of length_of holds
dial_5_given_back = (refl, refl)

dial_5_refused : (outlines_number 1 (dial5 2 8 (0 ∷ 1 ∷ []) (1 ∷ 1 ∷ 3 ∷ [])) ≡ 18) × (outlines_number 1 (dial5 2 8 (1 ∷ 0 ∷ []) (1 ∷ 2 ∷ 3 ∷ [])) ≡ 18)
    × (outlines_number 1 (dial5 3 8 (0 ∷ 1 ∷ []) (1 ∷ 2 ∷ 3 ∷ [])) ≡ 18) × (outlines_number 1 (dial5 2 9 (0 ∷ 1 ∷ []) (1 ∷ 2 ∷ 3 ∷ [])) ≡ 18)
unfolding outlines_number dial5 start_of length_of holds
dial_5_refused = (refl, refl, refl, refl)

-- The answer is one of two, and says whether the candidate has what is given.
pub data Verdict (n : ℕ) (g : Given) : Type 0 where
  given_back : outlines_number n g ≡ 0 → HasGiven n g (candidate_of n g) → Verdict n g
  no_such_image : outlines_number n g ≡ 18 → (HasGiven n g (candidate_of n g) → ⊥) → Verdict n g

pub verdict : (n : ℕ) (g : Given) → Verdict n g
unfolding outlines_number
verdict n g = pick (has_given n g (candidate_of n g)) refl
  where
    pick : (t : Bool) → has_given n g (candidate_of n g) ≡ t → Verdict n g
    pick true e = given_back (ap (λ (t : Bool). when (not t) 18) e) ((given_exactly n g (candidate_of n g)).0 e)
    pick false e = no_such_image (ap (λ (t : Bool). when (not t) 18) e) (λ h. false≢true (sym e ∙ (given_exactly n g (candidate_of n g)).1 h))

module _ (n : ℕ) (g : Given) where
  pub accepted_has : outlines_number n g ≡ 0 → HasGiven n g (candidate_of n g)
  accepted_has z = pick (verdict n g)
    where
      pick : Verdict n g → HasGiven n g (candidate_of n g)
      pick (given_back a h) = h
      pick (no_such_image a f) = absurd (omega arith)

  module _ (small : n ≤ 8) where
    pub has_accepted : (px : List ℕ) → HasGiven n g px → (outlines_number n g ≡ 0) × (candidate_of n g ≡ px)
    has_accepted px h = (pick (verdict n g), same_image)
      where
        same_image : candidate_of n g ≡ px
        same_image = image_is_candidate small h.same_up_to_counts

        pick : Verdict n g → outlines_number n g ≡ 0
        pick (given_back a k) = a
        pick (no_such_image a f) = absurd (f (subst (HasGiven n g) (sym same_image) h))

    pub none_refused : ((px : List ℕ) → HasGiven n g px → ⊥) → outlines_number n g ≡ 18
    none_refused none = pick (verdict n g)
      where
        pick : Verdict n g → outlines_number n g ≡ 18
        pick (given_back a h) = absurd (none (candidate_of n g) h)
        pick (no_such_image a f) = a

    pub refused_exactly_when_no_image : (outlines_number n g ≡ 18) ↔ ((px : List ℕ) → HasGiven n g px → ⊥)
    refused_exactly_when_no_image = (λ z px h. let a = (has_accepted px h).0 in let w : ⊥ = omega arith in w, none_refused)

    -- The block list of an image that has what is given is accepted and has it.
    pub list_of_image : (px : List ℕ) → HasGiven n g px → ListHasGiven n g (list_of (codes (quadtree n px)) (levels (quadtree n px)) (colours (quadtree n px)))
    list_of_image px h = record {
      accepted = quadtree_accepted n px small;
      has = subst (HasGiven n g) (sym (ap paint (blocks_of_fields (quadtree n px)) ∙ paint-quadtree n px (image_size h.same_up_to_counts))) h;
    }

    -- "it is refused exactly when no accepted list of that n has those cycles, owners, ends, corners and region colours".
    pub refused_exactly_when_no_accepted_list : (outlines_number n g ≡ 18) ↔ ((a : BlockList) → ListHasGiven n g a → ⊥)
    refused_exactly_when_no_accepted_list = (
      λ z a h. refused_exactly_when_no_image.0 z (image_of a) h.has,
      λ none. none_refused (λ px h. none (list_of (codes (quadtree n px)) (levels (quadtree n px)) (colours (quadtree n px))) (list_of_image px h)),
    )

    -- Two accepted lists that have what is given are one.
    pub one_list : (a b : BlockList) → ListHasGiven n g a → ListHasGiven n g b → a ≡ b
    one_list a b h k =
        let e = one_accepted_list n a.codes a.levels a.colours b.codes b.levels b.colours h.accepted k.accepted
        (one_image small h.has.same_up_to_counts k.has.same_up_to_counts) in
        λ i. record { codes = e.0 i; levels = e.1 i; colours = e.2 i }
