-- What the numbering of regions promises: the answer, and the later content of the label list and of the work list.
use Rattle.std.specs.Prelude.{◌≡◌, Bool, ℕ, ◌*◌, ◌^◌, ◌≤◌, ◌<◌, length, replicate}
use Rattle.std.proofs.Math.Path.{sym, ap}
use Rattle.std.proofs.Common.{ap₂, ◌∙◌, lt-ltb, le-ltb}
use Rattle.std.proofs.Math.Bool.{◌||◌}
use mathlib.Core.List.{List, []}
use native.Mathlib.Omega.{arith}
use Rattle.std.proofs.Math.Dec.{ltb}
use Rattle.sequences.specs.Cases.{when, if_accepted, first_some, first_none, when_yes, when_no, or_right, written_accepted, written_refused, count_if_accepted, count_accepted, count_refused}
use Rattle.sequences.specs.Over.{over, over_none}
use Rattle.quadtree.specs.Blocks.{blocks, paint}
use Rattle.quadtree.specs.Number.{number, number_with}
use Rattle.components.specs.Numbers.{labels, regions}
use Rattle.regions.specs.declared.Numbered.{Numbered}

-- "Block lists: 1, 2, then per block in list order 3, 4, 5, then 6, 7, 8"; 8 is "a lent list shorter than its need": "labels, one a
-- block", and the work list, "2 times 4^n" (document 01, "When the answer is a number").
unfoldable pub numbering_number : ℕ → List ℕ → List ℕ → List ℕ → List ℕ → List ℕ → ℕ
unfolding number_with
numbering_number n cs ls ks labels₀ work₀ = number_with (ltb (length labels₀) (length cs) || ltb (length work₀) (2 * 4 ^ n)) n cs ls ks

-- The labels written: "each block's region number at its place in the label list"; none on a refusal.
unfoldable pub labels_written : ℕ → List ℕ → List ℕ → List ℕ → List ℕ → List ℕ → List ℕ
unfolding if_accepted numbering_number labels blocks
labels_written n cs ls ks labels₀ work₀ = if_accepted (numbering_number n cs ls ks labels₀ work₀) (labels n (blocks cs ls ks))

-- The work list's entries: "On acceptance the work list's first 2 times 4^n entries are 0"; none are written on a refusal.
unfoldable pub zeros_written : ℕ → List ℕ → List ℕ → List ℕ → List ℕ → List ℕ → List ℕ
unfolding if_accepted numbering_number
zeros_written n cs ls ks labels₀ work₀ = if_accepted (numbering_number n cs ls ks labels₀ work₀) (replicate (2 * 4 ^ n) 0)

-- "numbering returns the count of regions"
unfoldable pub regions_counted : ℕ → List ℕ → List ℕ → List ℕ → List ℕ → List ℕ → ℕ
unfolding count_if_accepted numbering_number regions paint blocks
regions_counted n cs ls ks labels₀ work₀ = count_if_accepted (numbering_number n cs ls ks labels₀ work₀) (regions n (paint (blocks cs ls ks)))

-- The numbering, the label list and the work list before (labels₀, work₀) and after (labels₁, work₁).
pub record Numbering (n : ℕ) (cs ls ks labels₀ work₀ labels₁ work₁ : List ℕ) (r : Numbered) : Type 0 where
  pub answer : r ≡ record { number = numbering_number n cs ls ks labels₀ work₀; regions = regions_counted n cs ls ks labels₀ work₀ }
  pub in_labels : labels₁ ≡ over (labels_written n cs ls ks labels₀ work₀) labels₀
  pub in_work : work₁ ≡ over (zeros_written n cs ls ks labels₀ work₀) work₀

-- ---- cause by cause

module _ (n : ℕ) (cs ls ks labels₀ work₀ : List ℕ) where
  short : Bool
  short = ltb (length labels₀) (length cs) || ltb (length work₀) (2 * 4 ^ n)

  -- A refusal returns its number and leaves both lists.
  refused : {k : ℕ} → 0 < k → k ≡ numbering_number n cs ls ks labels₀ work₀ → Numbering n cs ls ks labels₀ work₀ labels₀ work₀ (record { number = k; regions = 0 })
  unfolding labels_written zeros_written regions_counted
  refused {k} p e =
      let some : 0 < numbering_number n cs ls ks labels₀ work₀ = omega arith in
      let no_labels : labels_written n cs ls ks labels₀ work₀ ≡ [] = written_refused (numbering_number n cs ls ks labels₀ work₀) (labels n (blocks cs ls ks)) some in
      let no_zeros : zeros_written n cs ls ks labels₀ work₀ ≡ [] = written_refused (numbering_number n cs ls ks labels₀ work₀) (replicate (2 * 4 ^ n) 0) some in
      record {
        answer = λ i. record { number = e i; regions = sym (count_refused (numbering_number n cs ls ks labels₀ work₀) (regions n (paint (blocks cs ls ks))) some) i };
        in_labels = sym (ap (λ (l : List ℕ). over l labels₀) no_labels ∙ over_none labels₀);
        in_work = sym (ap (λ (l : List ℕ). over l work₀) no_zeros ∙ over_none work₀);
      }

  pub list_refused : {k : ℕ} → 0 < k → k ≡ number n cs ls ks → Numbering n cs ls ks labels₀ work₀ labels₀ work₀ (record { number = k; regions = 0 })
  unfolding numbering_number number_with short
  list_refused {k} p e = refused p (e ∙ sym (first_some (number n cs ls ks) (when short 8) (omega arith)))

  module _ (accepted : number n cs ls ks ≡ 0) where
    number_is : numbering_number n cs ls ks labels₀ work₀ ≡ when short 8
    unfolding numbering_number number_with short
    number_is = first_none (number n cs ls ks) (when short 8) accepted

    pub labels_short : length labels₀ < length cs → Numbering n cs ls ks labels₀ work₀ labels₀ work₀ (record { number = 8; regions = 0 })
    unfolding short
    labels_short h =
        refused (omega arith)
        (sym (number_is ∙ when_yes short 8 (ap (λ (t : Bool). t || ltb (length work₀) (2 * 4 ^ n)) (lt-ltb (length labels₀) (length cs) h))))

    pub work_short : length work₀ < 2 * 4 ^ n → Numbering n cs ls ks labels₀ work₀ labels₀ work₀ (record { number = 8; regions = 0 })
    unfolding short
    work_short h =
        refused (omega arith)
        (sym (number_is ∙ when_yes short 8 (or_right (ltb (length labels₀) (length cs)) (ltb (length work₀) (2 * 4 ^ n)) (lt-ltb (length work₀) (2 * 4 ^ n) h))))

    -- With both lists long enough the labels and the zeros are written.
    module _ (one_a_block : length cs ≤ length labels₀) (room : 2 * 4 ^ n ≤ length work₀) where
      pub none : numbering_number n cs ls ks labels₀ work₀ ≡ 0
      unfolding short
      none = number_is ∙ when_no short 8 (ap₂ ◌||◌ (le-ltb (length labels₀) (length cs) one_a_block) (le-ltb (length work₀) (2 * 4 ^ n) room))

      pub numbered : {labels₁ work₁ : List ℕ} {count : ℕ} → labels₁ ≡ over (labels n (blocks cs ls ks)) labels₀ → work₁ ≡ over (replicate (2 * 4 ^ n) 0) work₀
          → count ≡ regions n (paint (blocks cs ls ks)) → Numbering n cs ls ks labels₀ work₀ labels₁ work₁ (record { number = 0; regions = count })
      unfolding labels_written zeros_written regions_counted
      numbered a b c = record {
        answer = λ i. record {
          number = sym none i;
          regions = (c ∙ sym (count_accepted (numbering_number n cs ls ks labels₀ work₀) (regions n (paint (blocks cs ls ks))) none)) i;
        };
        in_labels = a ∙ ap (λ (l : List ℕ). over l labels₀) (sym (written_accepted (numbering_number n cs ls ks labels₀ work₀) (labels n (blocks cs ls ks)) none));
        in_work = b ∙ ap (λ (l : List ℕ). over l work₀) (sym (written_accepted (numbering_number n cs ls ks labels₀ work₀) (replicate (2 * 4 ^ n) 0) none));
      }
