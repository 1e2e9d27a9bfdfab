-- The numbering of an accepted list: parents, walk, zeros and numbers one after the other.
use Rattle.std.specs.Prelude.{◌≡◌, ℕ, ◌*◌, ◌^◌, ◌≤◌, ◌<◌, take, replicate}
use Rattle.std.proofs.Common.{sym, ◌∙◌, arith, length-take-le}
use Rattle.std.proofs.Math.Path.{ap}
use mathlib.Core.List.{List, ◌++◌}
use Rattle.std.proofs.Math.Nat.{pow-le-pow_left}
use Rattle.std.proofs.Math.ListN.{length, drop}
use Rattle.sequences.specs.Fill.{fill}
use Rattle.sequences.specs.Over.{over}
use Rattle.sequences.specs.Powers.{pow4_mono}
use Rattle.sequences.specs.Ranges.{range}
use Rattle.location.specs.Levels.{pixels_of, pixels_are_power}
use Rattle.quadtree.specs.Blocks.{blocks, paint}
use Rattle.quadtree.specs.Number.{number}
use Rattle.quadtree.specs.Accepted.{Passes, number-zero}
use Rattle.unions.specs.Counting.{below}
use Rattle.unions.specs.Roots.{root}
use Rattle.unions.specs.RootNumbers.{numbers_below}
use Rattle.components.specs.Numbers.{labels, regions}
use Rattle.components.proofs.Labels.{length-labels}
use Rattle.components.specs.Walk.{block-count}
use Rattle.components.proofs.Walked.{labels_found, regions_found, work_cleared}
use Rattle.border.specs.Walk.{Walkable, Walked, few_blocks}
use Rattle.regions.specs.Promise.{Numbering, numbered}

-- An accepted list, a label list of one entry a block, and `need` entries of the work list to clear.
pub record Numberable (n need : ℕ) (cs ls ks labels₀ work₀ : List ℕ) : Type 0 where
  pub passes : Passes n cs ls ks
  pub one_a_block : length labels₀ ≡ length cs
  pub size : need ≡ 2 * 4 ^ n
  pub room : need ≤ length work₀

-- The label list holds the labels, the work list is cleared.
pub record LabelsFound (n : ℕ) (cs ls ks work₀ labels₁ work₁ : List ℕ) (r : ℕ) : Type 0 where
  pub in_labels : labels₁ ≡ labels n (blocks cs ls ks)
  pub in_work : work₁ ≡ over (replicate (2 * 4 ^ n) 0) work₀
  pub counted : r ≡ regions n (paint (blocks cs ls ks))

module _ {n need : ℕ} {cs ls ks labels₀ work₀ : List ℕ} (ready : Numberable n need cs ls ks labels₀ work₀) where
  pub few : length labels₀ < 65537
  few = omega (arith, ready.one_a_block, few_blocks ready.passes)

  pub walkable : {p : List ℕ} → p ≡ range 0 (length labels₀) → Walkable n cs ls ks p work₀
  walkable e = record {
    passes = ready.passes;
    own = e ∙ ap (range 0) ready.one_a_block;
    room = omega (arith, pow-le-pow_left {n = 2} {m = 4} (omega arith) n, ready.size, ready.room);
  }

  module _ {work p : List ℕ} (w : Walked n cs ls ks work₀ work p) where
    pub few_parents : length p < 65537
    few_parents = omega (arith, w.long, few_blocks ready.passes)

    pub labelled : {labels₁ work₁ : List ℕ} {r : ℕ} → r ≡ below (root p) (length p) → labels₁ ≡ numbers_below (root p) (length p) → work₁ ≡ fill work 0 need 0
        → LabelsFound n cs ls ks work₀ labels₁ work₁ r
    labelled c a b = record {
      in_labels = a ∙ labels_found ready.passes w (omega arith);
      in_work = b ∙ ap (λ (k : ℕ). fill work 0 k 0) ready.size ∙ work_cleared ready.passes w (omega (arith, ready.size, ready.room));
      counted = c ∙ regions_found ready.passes w (omega arith);
    }

-- The entries that the work list needs: few enough to be worked out in 64 bits.
pub need_is : (n : ℕ) (cs ls ks : List ℕ) → number n cs ls ks ≡ 0 → {w : ℕ} → w ≡ pixels_of n → (w ≤ 65536) × (2 * w ≡ 2 * 4 ^ n)
need_is n cs ls ks accepted {w} e =
    let small : n ≤ 8 = (number-zero n cs ls ks accepted).small in
    let at : w ≡ 4 ^ n = e ∙ pixels_are_power n (omega arith) in
    let most : 4 ^ n ≤ 65536 = pow4_mono small in
    (omega arith, ap (λ (x : ℕ). 2 * x) at)

-- The first entries of the label list, one a block, are lent and come back.
module _ (n : ℕ) (cs ls ks labels₀ work₀ : List ℕ) (accepted : number n cs ls ks ≡ 0) (long : length cs ≤ length labels₀) where
  pub numberable : {need : ℕ} → need ≡ 2 * 4 ^ n → need ≤ length work₀ → Numberable n need cs ls ks (take (length cs) labels₀) work₀
  numberable e h = record { passes = number-zero n cs ls ks accepted; one_a_block = length-take-le (length cs) labels₀ long; size = e; room = h }

  pub written : {part work₁ : List ℕ} {r : ℕ} → 2 * 4 ^ n ≤ length work₀ → LabelsFound n cs ls ks work₀ part work₁ r
      → Numbering n cs ls ks labels₀ work₀ (part ++ drop (length cs) labels₀) work₁ (record { number = 0; regions = r })
  unfolding over
  written {part} room l =
      let size : length (labels n (blocks cs ls ks)) ≡ length cs = length-labels n (blocks cs ls ks) ∙ block-count (number-zero n cs ls ks accepted) in
      numbered n cs ls ks labels₀ work₀ accepted long room
      (ap (λ (p : List ℕ). p ++ drop (length cs) labels₀) l.in_labels ∙ ap (λ (k : ℕ). labels n (blocks cs ls ks) ++ drop k labels₀) (sym size))
      l.in_work l.counted
