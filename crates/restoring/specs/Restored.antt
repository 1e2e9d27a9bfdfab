-- The block list given back for outlines whose counts fit, and from there the promise.
use Rattle.std.specs.Prelude.{◌≡◌, refl, false, length, replicate}
use Rattle.std.proofs.Common.{sym, ap, ap₂, ◌∙◌, subst, subst₂, length-append, length-drop, drop_of_length-le, arith}
use mathlib.Core.List.{List, ◌++◌, append-nil}
use Prim.Native.Nat.{ℕ, ◌*◌, ◌^◌, ◌≤◌}
use Rattle.std.proofs.Math.ListN.{drop}
use Rattle.std.proofs.lemmas.List.{length-replicate}
use Rattle.sequences.specs.Over.{over}
use Rattle.sequences.specs.Fill.{fill, fill-front}
use Rattle.answers.specs.declared.Written.{Written}
use Rattle.quadtree.specs.Quadtree.{quadtree}
use Rattle.quadtree.specs.BlockLists.{BlockList, RoomFor, SameLengths}
use Rattle.runs.specs.Stored.{stored, stored_in_front}
use Rattle.cycles.specs.Mapped.{nums_of}
use Rattle.appending.specs.Progress.{AllWritten}
use Rattle.given_outlines.specs.Given.{Outlines, Given, up_to_counts, HasOutlines, coloured}
use Rattle.given_outlines.specs.Judged.{candidate_of, has_accepted, none_refused}
use Rattle.restoring.specs.Promise.{is_too_short, Restoring, blocks_back, no_image, list_given_back}
use Rattle.restoring.specs.Lengths.{needs_met}
use Rattle.map_blocks.specs.Painting.{Paintable}
use Rattle.restoring.specs.Judging.{NoneHas, Judgeable, Found}
use Rattle.given_outlines.specs.Counts.{CountsFit, given_fits, fitting_given}

-- The lists for the blocks and the work list have the entries that are needed.
pub record Restorable (n : ℕ) (o : Outlines) (lent : BlockList) (work : List ℕ) : Type 0 where
  pub judgeable : Judgeable n o work
  pub room : RoomFor (4 ^ n) lent

-- Either the blocks of an image that has the outlines are written, or none has them and the lists are as they were.
pub data Outcome (n : ℕ) (o : Outlines) (before after : BlockList) (r : Written) : Type 0 where
  found : (px : List ℕ) → HasOutlines n o px → r ≡ record { number = 0; count = length (quadtree n px) } → after ≡ stored 0 (quadtree n px) before
      → Outcome n o before after r
  none : NoneHas n o → r ≡ record { number = 18; count = 0 } → after ≡ before → Outcome n o before after r

-- Besides, the work list is 0.
pub record Restored (n : ℕ) (o : Outlines) (before after : BlockList) (work' : List ℕ) (r : Written) : Type 0 where
  pub outcome : Outcome n o before after r
  pub zeros : work' ≡ replicate (8 * 4 ^ n) 0
  pub same : SameLengths after before

module _ {n : ℕ} {o : Outlines} {lent : BlockList} {work : List ℕ} (start : Restorable n o lent work) where
  pub paintable : {map : List ℕ} → Found n o map → Paintable n map o.colour_list lent
  paintable f = record { small = start.judgeable.small; mapped = f.mapped; below = f.below; room = start.room }

  pub all_given_back : {map work' : List ℕ} {after : BlockList} {count : ℕ} → Found n o map → AllWritten n (coloured o.colour_list (nums_of n map)) lent after count
      → work' ≡ replicate (8 * 4 ^ n) 0 → Restored n o lent after work' (record { number = 0; count = count })
  all_given_back {map} f w zeros = record {
    outcome = found (coloured o.colour_list (nums_of n map)) f.has (ap (λ k. record { number = 0; count = k }) w.answer) w.lists;
    zeros = zeros;
    same = w.same;
  }

  pub none_given_back : {work' : List ℕ} {r : Written} → NoneHas n o → r ≡ record { number = 18; count = 0 } → work' ≡ replicate (8 * 4 ^ n) 0
      → Restored n o lent lent work' r
  none_given_back f e zeros = record { outcome = none f e refl; zeros = zeros; same = record { for_codes = refl; for_levels = refl; for_colours = refl } }

-- A list cleared from end to end.
pub cleared : {k s : ℕ} (l : List ℕ) {l' : List ℕ} → length l ≡ k → s ≡ k → l' ≡ fill l 0 s 0 → l' ≡ replicate k 0
unfolding over
cleared {k} {s} l {l'} long e f =
    f
    ∙ ap (λ i. fill l 0 i 0) e
    ∙ fill-front l k 0 (omega arith)
    ∙ ap (λ t. replicate k 0 ++ t) (drop_of_length-le l {i = length (replicate k 0)} (omega (arith, length-replicate {A = ℕ} k 0)))
    ∙ append-nil (replicate k 0)

-- A part that was lent and comes back as zeros is as long as it was.
pub part_back : {k s : ℕ} {part : List ℕ} (l : List ℕ) → part ≡ replicate k 0 → s ≡ k → k ≤ length l → length (part ++ drop s l) ≡ length l
part_back {k} {s} {part} l e f h =
    omega (arith, length-append part (drop s l), ap length e, length-replicate {A = ℕ} k 0, length-drop s l)

-- ---- the promise

module _ (n : ℕ) (g : Given) (lent : BlockList) (work : List ℕ) (small : n ≤ 8) (long : is_too_short n lent work ≡ false) where
  -- A list shorter than its count.
  pub counts_refused : (CountsFit g → ⊥) → {need : ℕ} {work₁ : List ℕ} {r : Written} → need ≡ 8 * 4 ^ n → r ≡ record { number = 18; count = 0 }
      → work₁ ≡ fill work 0 need 0 → Restoring n g lent work lent work₁ r
  counts_refused f {work₁ = work₁} e answer filled =
      subst (Restoring n g lent work lent work₁) (sym answer)
      (no_image n g lent work small long (none_refused n g small (λ px h. f (given_fits h)))
      (filled ∙ ap (λ s. fill work 0 s 0) e ∙ fill-front work (8 * 4 ^ n) 0 (needs_met n lent work long).for_work))

  -- The part of the work list that was lent stands in front of the rest again.
  pub restored : CountsFit g → {need : ℕ} {part' : List ℕ} {after : BlockList} {r : Written} → need ≡ 8 * 4 ^ n → Restored n (up_to_counts g) lent after part' r
      → Restoring n g lent work after (part' ++ drop need work) r
  unfolding blocks_back over
  restored fit {need} {part'} {after} {r} size w = pick w.outcome
    where
      work₁ : List ℕ
      work₁ = part' ++ drop need work

      zeros : part' ++ drop need work ≡ over (replicate (8 * 4 ^ n) 0) work
      zeros = ap₂ (λ p s. p ++ drop s work) w.zeros (size ∙ sym (length-replicate {A = ℕ} (8 * 4 ^ n) 0))

      pick : Outcome n (up_to_counts g) lent after r → Restoring n g lent work after work₁ r
      pick (found px has e f) =
          let a = has_accepted n g small px (fitting_given fit has) in
          let back : quadtree n px ≡ quadtree n (candidate_of n g) = ap (quadtree n) (sym a.1) in
          subst (Restoring n g lent work after work₁) (sym e)
          (list_given_back n g lent work small long a.0 zeros (ap length back) (stored_in_front (blocks_back n g) lent after (f ∙ ap (λ bs. stored 0 bs lent) back)))
      pick (none f e same) =
          subst₂ (λ l a. Restoring n g lent work l work₁ a) (sym same) (sym e)
          (no_image n g lent work small long (none_refused n g small (λ px h. f px h.same_up_to_counts)) zeros)
