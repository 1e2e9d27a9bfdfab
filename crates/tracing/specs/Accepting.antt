-- After the numbering of the regions: a refusal, or the listing of their outlines, which gives what the tracing promises.
use Rattle.std.specs.Prelude.{◌≡◌, refl, Bool, true, false, ◌||◌, ℕ, ◌*◌, ◌^◌, ◌≤◌, length, get_or, replicate, ℤ, ltb}
use Rattle.std.proofs.Math.Path.{sym, ap}
use Rattle.std.proofs.Common.{◌∙◌, subst, arith}
use mathlib.Core.List.{List}
use Rattle.std.proofs.lemmas.List.{length-replicate, get_or-replicate}
use Rattle.sequences.specs.Cases.{written_accepted, count_accepted}
use Rattle.sequences.specs.Over.{over, length_over, over_inside}
use Rattle.sequences.specs.Powers.{pow4_mono}
use Rattle.quadtree.specs.Blocks.{blocks, paint}
use Rattle.quadtree.specs.Number.{number_with}
use Rattle.quadtree.specs.Accepted.{number-zero}
use Rattle.components.specs.Numbers.{numbers, labels, regions}
use Rattle.components.proofs.Numbered.{number-below-regions}
use Rattle.regions.specs.Promise.{Numbering, numbering_number, labels_written, zeros_written, regions_counted}
use Rattle.regions.specs.Callers.{refusal_leaves_all}
use Rattle.regions.specs.declared.Numbered.{Numbered}
use Rattle.grid.specs.Listing.{Cycle, listing, owners, ends, all_corners, areas, cycle_count, corner_count}
use Rattle.grid.specs.Bounds.{cycles_fit, corner-count_fits}
use Rattle.links.specs.OverTwice.{over_twice}
use Rattle.links.specs.FirstCycles.{all_regions}
use Rattle.links.specs.Relabelled.{labels_room, relabelled, relabelled_paints, few_regions}
use Rattle.starts.specs.Progress.{state, none_counted}
use Rattle.outlining.specs.Outlining.{Outlinable, Outlined}
use Rattle.tracing.specs.Tracing.{Lent, lent, is_too_short, tracing_number, outlines_of, cycles_written, labels_left, zeros_left, regions_listed, Tracing, Needs, needs_met, refused}
use Rattle.tracing.specs.declared.Traced.{Traced}
use Rattle.starts.specs.declared.Counts.{Counts}

-- Three tests that fail, the first two of them.
first_two : (a b c : Bool) → a || (b || c) ≡ false → a || b ≡ false
first_two true b c h = h
first_two false true c h = h
first_two false false c h = refl

module _ {n : ℕ} {cs ls ks : List ℕ} (b : Lent) (enough : is_too_short n (length cs) b ≡ false)
    {labels₁ work₁ : List ℕ} {numbered : Numbered} (done : Numbering n cs ls ks b.label_list b.work_list labels₁ work₁ numbered) where
  -- Where no list is too short the two numbers are one.
  same_number : numbering_number n cs ls ks b.label_list b.work_list ≡ tracing_number n cs ls ks b
  unfolding numbering_number tracing_number is_too_short
  same_number =
      ap (λ (t : Bool). number_with t n cs ls ks)
      (first_two (ltb (length b.label_list) (length cs)) (ltb (length b.work_list) (2 * 4 ^ n)) _ enough ∙ sym enough)

  answered : numbered.number ≡ numbering_number n cs ls ks b.label_list b.work_list
  answered = ap (λ (r : Numbered). r.number) done.answer

  pub numbering_refused : (numbered.number ≡ 0 → ⊥)
      → Tracing n cs ls ks b (lent labels₁ work₁ b.owner_list b.end_list b.corner_list b.area_list) (record { number = numbered.number; regions = 0; cycles = 0; corners = 0 })
  numbering_refused p =
      let left = refusal_leaves_all done (omega arith) in
      let answer : Traced = record { number = numbered.number; regions = 0; cycles = 0; corners = 0 } in
      subst (λ (l : List ℕ). Tracing n cs ls ks b (lent l work₁ b.owner_list b.end_list b.corner_list b.area_list) answer) (sym left.1)
      (subst (λ (w : List ℕ). Tracing n cs ls ks b (lent b.label_list w b.owner_list b.end_list b.corner_list b.area_list) answer) (sym left.2)
      (refused n cs ls ks b p (answered ∙ same_number)))

  module _ (zero_number : numbered.number ≡ 0) where
    accepted : numbering_number n cs ls ks b.label_list b.work_list ≡ 0
    accepted = sym answered ∙ zero_number

    number_is : tracing_number n cs ls ks b ≡ 0
    number_is = sym same_number ∙ accepted

    met : Needs n cs ls ks b
    met = needs_met n cs ls ks b number_is

    labels_are : labels₁ ≡ over (labels n (blocks cs ls ks)) b.label_list
    unfolding labels_written
    labels_are =
        done.in_labels
        ∙ ap (λ (l : List ℕ). over l b.label_list) (written_accepted (numbering_number n cs ls ks b.label_list b.work_list) (labels n (blocks cs ls ks)) accepted)

    work_is : work₁ ≡ over (replicate (2 * 4 ^ n) 0) b.work_list
    unfolding zeros_written
    work_is =
        done.in_work
        ∙ ap (λ (l : List ℕ). over l b.work_list) (written_accepted (numbering_number n cs ls ks b.label_list b.work_list) (replicate (2 * 4 ^ n) 0) accepted)

    regions_are : numbered.regions ≡ regions n (paint (blocks cs ls ks))
    unfolding regions_counted
    regions_are =
        ap (λ (r : Numbered). r.regions) done.answer
        ∙ count_accepted (numbering_number n cs ls ks b.label_list b.work_list) (regions n (paint (blocks cs ls ks))) accepted

    zeros_long : length {A = ℕ} (replicate (2 * 4 ^ n) 0) ≡ 2 * 4 ^ n
    zeros_long = length-replicate (2 * 4 ^ n) 0

    pub outlinable : Outlinable n cs ls labels₁ (state work₁ b.owner_list b.end_list b.corner_list b.area_list none_counted)
    outlinable =
        subst (λ (l : List ℕ). Outlinable n cs ls l (state work₁ b.owner_list b.end_list b.corner_list b.area_list none_counted)) (sym labels_are)
        (record {
          labelled = relabelled n cs ls ks met.accepted b.label_list met.for_labels;
          equal = (number-zero n cs ls ks met.accepted).equal_levels;
          enough = labels_room n cs ls ks met.accepted b.label_list met.for_labels;
          zeros = λ j h.
              ap (λ (l : List ℕ). get_or l j 0) work_is
              ∙ over_inside (replicate (2 * 4 ^ n) 0) b.work_list j (omega (arith, zeros_long)) ∙ get_or-replicate (2 * 4 ^ n) j 0 0 h;
          for_work =
              omega (arith, ap length work_is, length_over (replicate (2 * 4 ^ n) 0) b.work_list (omega (arith, zeros_long, met.for_work)), met.for_work);
          room = record {
            small = (number-zero n cs ls ks met.accepted).small;
            for_owners = met.for_owners;
            for_ends = met.for_ends;
            for_corners = met.for_corners;
            for_areas = met.for_areas;
          };
        })

    -- ---- after the listing

    module _ {work₂ owners₂ ends₂ corners₂ : List ℕ} {areas₂ : List ℤ} {counts : Counts}
        (outlined : Outlined n (blocks cs ls labels₁) (state work₁ b.owner_list b.end_list b.corner_list b.area_list none_counted) (state work₂ owners₂ ends₂ corners₂ areas₂ counts)) where
      cycles_are : listing n (paint (blocks cs ls labels₁)) (4 ^ n) ≡ outlines_of n cs ls ks
      unfolding outlines_of
      cycles_are =
          ap (λ (l : List ℕ). listing n (paint (blocks cs ls l)) (4 ^ n)) labels_are
          ∙ ap (λ (m : List ℕ). listing n m (4 ^ n)) (relabelled_paints n cs ls ks met.accepted b.label_list met.for_labels)
          ∙ all_regions n (numbers n (paint (blocks cs ls ks))) (regions n (paint (blocks cs ls ks)))
          (number-below-regions n (paint (blocks cs ls ks))) (few_regions n cs ls ks met.accepted b.label_list met.for_labels)

      small : 4 ^ n ≤ 65536
      small = pow4_mono (number-zero n cs ls ks met.accepted).small

      pub counts_small : (counts.cycles ≤ 65536) × (counts.corners ≤ 262144)
      counts_small = (
        omega (arith, outlined.cycle-count, cycles_fit n (paint (blocks cs ls labels₁)) (4 ^ n), small),
        omega (arith, outlined.corner-count, corner-count_fits n (paint (blocks cs ls labels₁)) (4 ^ n) (number-zero n cs ls ks met.accepted).small, small),
      )

      written : cycles_written n cs ls ks b ≡ listing n (paint (blocks cs ls labels₁)) (4 ^ n)
      unfolding cycles_written
      written = written_accepted (tracing_number n cs ls ks b) (outlines_of n cs ls ks) number_is ∙ sym cycles_are

      pub traced : Tracing n cs ls ks b (lent labels₁ work₂ owners₂ ends₂ corners₂ areas₂)
          (record { number = 0; regions = numbered.regions; cycles = counts.cycles; corners = counts.corners })
      unfolding labels_left zeros_left regions_listed
      traced = record {
        answer = λ i. record {
          number = sym number_is i;
          regions = (regions_are ∙ sym (count_accepted (tracing_number n cs ls ks b) (regions n (paint (blocks cs ls ks))) number_is)) i;
          cycles = (outlined.cycle-count ∙ ap cycle_count (sym written)) i;
          corners = (outlined.corner-count ∙ ap corner_count (sym written)) i;
        };
        in_labels =
            labels_are
            ∙ ap (λ (l : List ℕ). over l b.label_list) (sym (written_accepted (tracing_number n cs ls ks b) (labels n (blocks cs ls ks)) number_is));
        in_work =
            outlined.in_work
            ∙ ap (over (replicate (2 * 4 ^ n) 0)) work_is
            ∙ over_twice (replicate (2 * 4 ^ n) 0) (replicate (2 * 4 ^ n) 0) b.work_list (omega arith)
            ∙ ap (λ (l : List ℕ). over l b.work_list) (sym (written_accepted (tracing_number n cs ls ks b) (replicate (2 * 4 ^ n) 0) number_is));
        in_owners = outlined.in_owners ∙ ap (λ (c : List Cycle). over (owners c) b.owner_list) (sym written);
        in_ends = outlined.in_ends ∙ ap (λ (c : List Cycle). over (ends c) b.end_list) (sym written);
        in_corners = outlined.in_corners ∙ ap (λ (c : List Cycle). over (all_corners c) b.corner_list) (sym written);
        in_areas = outlined.in_areas ∙ ap (λ (c : List Cycle). over (areas c) b.area_list) (sym written);
      }
