-- What a caller knows, from the promise, about the answer and the lists at exit.
use Rattle.std.specs.Prelude.{◌≡◌, refl, ◌⊎◌, ◌↔◌, Bool, not, cond, ◌||◌, ◌&&◌, ℕ, ◌*◌, ◌^◌, ◌≤◌, ◌<◌, ltb}
use Rattle.std.proofs.Common.{sym, ap₂, ◌∙◌, subst₂, inl, inr}
use Rattle.std.proofs.Math.Path.{ap, subst}
use Rattle.std.proofs.Math.Bool.{true, false}
use mathlib.Core.List.{List, []}
use Rattle.std.proofs.Math.Decide.{dec_lt}
use native.Mathlib.Omega.{arith}
use Rattle.std.proofs.Math.Dec.{eqb}
use Rattle.std.proofs.Math.ListN.{length, get_or, replicate, length-replicate, get_or-replicate}
use Rattle.sequences.specs.Cases.{first, when}
use Rattle.sequences.specs.Over.{over, over_none, over_inside, over_beyond}
use Rattle.answers.specs.declared.Written.{Written}
use Rattle.quadtree.specs.Fields.{codes, levels, colours}
use Rattle.quadtree.specs.Quadtree.{quadtree}
use Rattle.quadtree.specs.BlockLists.{BlockList, list_of}
use Rattle.components.specs.Numbers.{regions}
use Rattle.grid.specs.Listing.{corner_count}
use Rattle.links.specs.Image.{image_outlines}
use Rattle.block_answers.specs.BlockWriters.{WritesBlocks, result_of, number_answered, result_is_written, refusal_leaves_all}
use Rattle.given_outlines.specs.Given.{Outlines, Given, up_to_counts, HasGiven, ListHasGiven}
use Rattle.given_outlines.specs.Candidate.{candidate}
use Rattle.given_outlines.specs.Judged.{has_outlines, has_given, outlines_number, Verdict, given_back, no_such_image, verdict, candidate_of, accepted_has}
use Rattle.given_outlines.specs.Judged.{refused_exactly_when_no_accepted_list, none_refused, list_of_image, has_accepted, one_list}
use Rattle.given_outlines.specs.Counts.{CountsFit, given_fits}
use Rattle.given_outlines.specs.Agreeing.{Agreeing, lists_agree}
use Rattle.restoring.specs.Promise.{is_too_short, restoring_number, blocks_back, zeros_after, Restoring, side_too_large, number_short, past_eight}
use Rattle.restoring.specs.Lengths.{NeedsMet, none_short, needs_met, one_short_lem}

module _ {n : ℕ} {g : Given} {before after : BlockList} {work₀ work₁ : List ℕ} {r : Written} (p : Restoring n g before work₀ after work₁ r) where
  answered : r.number ≡ restoring_number n g before work₀
  answered = number_answered p.writes

  -- ---- "Checks: 1, then 8 .., then new 18 (no such image)"

  pub one_comes_first : 8 < n → r.number ≡ 1
  one_comes_first h = answered ∙ sym (number_answered (side_too_large n g before work₀ h).writes)

  pub eight_comes_next : n ≤ 8 → (NeedsMet n before work₀ → ⊥) → r.number ≡ 8
  eight_comes_next small short = answered ∙ number_short n g before work₀ small (one_short_lem n before work₀ short)

  -- Past 1 and 8:
  module _ (small : n ≤ 8) (long : NeedsMet n before work₀) where
    number_of_outlines : r.number ≡ outlines_number n g
    number_of_outlines = answered ∙ past_eight n g before work₀ small (none_short n before work₀ long)

    -- "it is refused exactly when no accepted list of that n has those cycles, owners, ends, corners and region colours".
    pub eighteen_exactly_when_no_accepted_list_has_it : (r.number ≡ 18) ↔ ((a : BlockList) → ListHasGiven n g a → ⊥)
    eighteen_exactly_when_no_accepted_list_has_it =
        let e = refused_exactly_when_no_accepted_list n g small in
        (λ z. e.0 (sym number_of_outlines ∙ z), λ none. number_of_outlines ∙ e.1 none)

    pub zero_exactly_when_an_accepted_list_has_it : (r.number ≡ 0) ↔ ((a : BlockList) × ListHasGiven n g a)
    zero_exactly_when_an_accepted_list_has_it = (
      λ z. (
        list_of (codes (quadtree n (candidate_of n g))) (levels (quadtree n (candidate_of n g))) (colours (quadtree n (candidate_of n g))),
        list_of_image n g small (candidate_of n g) (accepted_has n g (sym number_of_outlines ∙ z)),
      ),
      λ some. number_of_outlines ∙ (has_accepted n g small _ some.1.has).0,
    )

    -- "Lists or counts that don't agree with each other have no such image either".
    pub counts_that_do_not_fit : (CountsFit g → ⊥) → r.number ≡ 18
    counts_that_do_not_fit f = number_of_outlines ∙ none_refused n g small (λ px h. f (given_fits h))

    pub lists_that_do_not_agree : (Agreeing (up_to_counts g).owner_list (up_to_counts g).end_list (up_to_counts g).corner_list → ⊥) → r.number ≡ 18
    lists_that_do_not_agree f = number_of_outlines ∙ none_refused n g small (λ px h. f (lists_agree h.same_up_to_counts))

    pub zero_or_eighteen : (r.number ≡ 0) ⊎ (r.number ≡ 18)
    zero_or_eighteen = pick (verdict n g)
      where
        pick : Verdict n g → (r.number ≡ 0) ⊎ (r.number ≡ 18)
        pick (given_back a h) = inl (number_of_outlines ∙ a)
        pick (no_such_image a f) = inr (number_of_outlines ∙ a)

  -- 0 and 18 are answered past 1 and 8 only.
  pub asked_past_eight : (r.number ≡ 0) ⊎ (r.number ≡ 18) → (n ≤ 8) × NeedsMet n before work₀
  asked_past_eight said = pick (dec_lt 8 n) (is_too_short n before work₀) refl
    where
      other : {k : ℕ} → 0 < k → k < 18 → r.number ≡ k → ⊥
      other {k} a b e = by said
        where
          by : (r.number ≡ 0) ⊎ (r.number ≡ 18) → ⊥
          by (inl z) = let w : ⊥ = omega arith in w
          by (inr z) = let w : ⊥ = omega arith in w

      pick : Dec (8 < n) → (t : Bool) → is_too_short n before work₀ ≡ t → (n ≤ 8) × NeedsMet n before work₀
      pick (yes a) t e = absurd (other (omega arith) (omega arith) (one_comes_first a))
      pick (no a) true e = absurd (other (omega arith) (omega arith) (answered ∙ number_short n g before work₀ (omega arith) e))
      pick (no a) false e = (omega arith, needs_met n before work₀ e)

  -- ---- "Give back the block list they came from"

  module _ (ok : r.number ≡ 0) where
    small_here : n ≤ 8
    small_here = (asked_past_eight (inl ok)).0

    candidate_has : HasGiven n g (candidate_of n g)
    candidate_has = accepted_has n g (sym (number_of_outlines small_here (asked_past_eight (inl ok)).1) ∙ ok)

    -- The lists at exit, up to the count, are an accepted list that has what is given, and no other has it.
    pub result_has_given : ListHasGiven n g (result_of after r)
    unfolding blocks_back
    result_has_given = subst (ListHasGiven n g) (sym (result_is_written p.writes ok)) (list_of_image n g small_here (candidate_of n g) candidate_has)

    pub no_other_has_given : (a : BlockList) → ListHasGiven n g a → result_of after r ≡ a
    no_other_has_given a h = one_list n g small_here (result_of after r) a result_has_given h

  -- ---- the lists

  -- Every refusal has count 0 and leaves the three lists.
  pub refusal_leaves_lists : 0 < r.number → (r.count ≡ 0) × (after ≡ before)
  refusal_leaves_lists h = refusal_leaves_all p.writes h

  -- "those are 0 after acceptance and after 18".
  pub work_cleared : (r.number ≡ 0) ⊎ (r.number ≡ 18) → (i : ℕ) → i < 8 * 4 ^ n → get_or work₁ i 0 ≡ 0
  unfolding zeros_after
  work_cleared said i h =
      ap (λ l. get_or l i 0) (p.in_work ∙ ap (λ l. over l work₀) (zeros said))
      ∙ over_inside (replicate (8 * 4 ^ n) 0) work₀ i (omega (arith, length-replicate {A = ℕ} (8 * 4 ^ n) 0))
      ∙ get_or-replicate {A = ℕ} (8 * 4 ^ n) i 0 0 h
    where
      zeros : (r.number ≡ 0) ⊎ (r.number ≡ 18) → zeros_after n (restoring_number n g before work₀) ≡ replicate (8 * 4 ^ n) 0
      zeros (inl z) = ap (zeros_after n) (sym answered ∙ z)
      zeros (inr z) = ap (zeros_after n) (sym answered ∙ z)

  -- With 1 and 8 the work list is as it was.
  pub other_refusals_leave_work : (r.number ≡ 1) ⊎ (r.number ≡ 8) → work₁ ≡ work₀
  unfolding zeros_after
  other_refusals_leave_work said = p.in_work ∙ ap (λ l. over l work₀) (none said) ∙ over_none work₀
    where
      none : (r.number ≡ 1) ⊎ (r.number ≡ 8) → zeros_after n (restoring_number n g before work₀) ≡ []
      none (inl z) = ap (zeros_after n) (sym answered ∙ z)
      none (inr z) = ap (zeros_after n) (sym answered ∙ z)

  -- Entries beyond are as they were, whatever was answered.
  pub work_kept : (i : ℕ) → 8 * 4 ^ n ≤ i → get_or work₁ i 0 ≡ get_or work₀ i 0
  unfolding zeros_after
  work_kept i h = ap (λ l. get_or l i 0) p.in_work ∙ over_beyond (zeros_after n (restoring_number n g before work₀)) work₀ i (omega (arith, at_most (restoring_number n g before work₀)))
    where
      at_most : (k : ℕ) → length (zeros_after n k) ≤ 8 * 4 ^ n
      at_most k = pick (eqb k 0 || eqb k 18)
        where
          pick : (t : Bool) → length {A = ℕ} (cond t (replicate (8 * 4 ^ n) 0) []) ≤ 8 * 4 ^ n
          pick true = omega (arith, length-replicate {A = ℕ} (8 * 4 ^ n) 0)
          pick false = omega arith

-- "entries beyond them are not looked at": what has the same counts and, up to them, the same lists has the same answer and the same lists at
-- exit.
pub beyond_counts_not_looked_at : {n : ℕ} {g h : Given} {before after : BlockList} {work₀ work₁ : List ℕ} {r : Written}
    → g.region_total ≡ h.region_total → g.cycle_total ≡ h.cycle_total → g.corner_total ≡ h.corner_total → up_to_counts g ≡ up_to_counts h
    → Restoring n g before work₀ after work₁ r → Restoring n h before work₀ after work₁ r
unfolding restoring_number outlines_number has_given blocks_back
beyond_counts_not_looked_at {n} {g} {h} {before} {after} {work₀} {work₁} {r} a b c e p =
    record {
      writes = subst₂ (λ k bs. WritesBlocks k bs before after r) number (ap (λ o. quadtree n (candidate n o)) e) p.writes;
      in_work = subst (λ k. work₁ ≡ over (zeros_after n k) work₀) number p.in_work;
    }
  where
    -- The answer by counts and lists.
    answer : ℕ → ℕ → ℕ → Outlines → ℕ
    answer rs cs ks o =
        when (not (eqb (regions n (candidate n o)) rs && (eqb (length (image_outlines n (candidate n o))) cs
        && (eqb (corner_count (image_outlines n (candidate n o))) ks && has_outlines n o (candidate n o))))) 18

    same_answer : outlines_number n g ≡ outlines_number n h
    same_answer =
        ap₂ (λ i j. answer i j g.corner_total (up_to_counts g)) a b ∙ ap₂ (answer h.region_total h.cycle_total) c e

    number : restoring_number n g before work₀ ≡ restoring_number n h before work₀
    number = ap (λ k. first (when (ltb 8 n) 1) (first (when (is_too_short n before work₀) 8) k)) same_answer
