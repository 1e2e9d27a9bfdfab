-- What giving the least order promises: the answer, and the later content of the label list, the work list and the order list.
use Rattle.std.specs.Prelude.{◌≡◌, refl, Bool, true, false, ◌||◌, List, ℕ, zero, suc, ◌*◌, ◌^◌, ◌≤◌, ◌<◌, length, replicate}
use Rattle.std.proofs.Math.Path.{sym, ap}
use Rattle.std.proofs.Common.{◌∙◌, arith, lt-ltb, le-ltb}
use Rattle.std.proofs.Math.Dec.{ltb}
use Rattle.sequences.specs.Cases.{when, if_accepted, first_some, first_none, when_yes, or_right, written_refused}
use Rattle.sequences.specs.Over.{over, over_none}
use Rattle.answers.specs.declared.Written.{Written}
use Rattle.answers.specs.Put.{Put}
use Rattle.answers.specs.Answers.{Writes, writes_none, writes_all}
use Rattle.quadtree.specs.Blocks.{blocks, paint}
use Rattle.quadtree.specs.Number.{number, number_with}
use Rattle.components.specs.Numbers.{labels}
use Rattle.regions.specs.Promise.{numbering_number, labels_written, zeros_written, Numbering}
use Rattle.regions.specs.declared.Numbered.{Numbered}
use Rattle.surrounding.specs.CuttingOrders.{cutting_order}

-- "Both take a label list and a work list as the tracing does .. Giving an order also takes an order list of one entry a block" (document
-- 02, request h): one of the three is shorter than its need.
unfoldable pub is_too_short : ℕ → List ℕ → List ℕ → List ℕ → List ℕ → Bool
is_too_short n cs labels₀ work₀ order₀ = (ltb (length labels₀) (length cs) || ltb (length work₀) (2 * 4 ^ n)) || ltb (length order₀) (length cs)

-- "Checks: 1 to 7, then 8 for these lists".
unfoldable pub ordering_number : ℕ → List ℕ → List ℕ → List ℕ → List ℕ → List ℕ → List ℕ → ℕ
unfolding number_with is_too_short
ordering_number n cs ls ks labels₀ work₀ order₀ = number_with (is_too_short n cs labels₀ work₀ order₀) n cs ls ks

-- The least order given: the answer and the order list, "filled up to the number of regions"; the region numbers in the label list and zeros
-- in the work list. A refusal leaves all lists.
pub record LeastOrdering (n : ℕ) (cs ls ks labels₀ work₀ order₀ labels₁ work₁ order₁ : List ℕ) (r : Written) : Type 0 where
  pub in_order : Writes (ordering_number n cs ls ks labels₀ work₀ order₀) (cutting_order n (paint (blocks cs ls ks))) order₀ order₁ r
  pub in_labels : labels₁ ≡ over (if_accepted (ordering_number n cs ls ks labels₀ work₀ order₀) (labels n (blocks cs ls ks))) labels₀
  pub in_work : work₁ ≡ over (if_accepted (ordering_number n cs ls ks labels₀ work₀ order₀) (replicate (2 * 4 ^ n) 0)) work₀

-- ---- cause by cause

module _ (n : ℕ) (cs ls ks labels₀ work₀ order₀ : List ℕ) where
  -- A refusal returns its number and 0, and leaves all lists.
  refused : {k : ℕ} → (k ≡ 0 → ⊥) → k ≡ ordering_number n cs ls ks labels₀ work₀ order₀
      → LeastOrdering n cs ls ks labels₀ work₀ order₀ labels₀ work₀ order₀ (record { number = k; count = 0 })
  refused {k} some e = by k some e
    where
      by : (k : ℕ) → (k ≡ 0 → ⊥) → k ≡ ordering_number n cs ls ks labels₀ work₀ order₀
          → LeastOrdering n cs ls ks labels₀ work₀ order₀ labels₀ work₀ order₀ (record { number = k; count = 0 })
      by zero p q = absurd (p refl)
      by (suc k) p q =
          let none : 0 < ordering_number n cs ls ks labels₀ work₀ order₀ = omega arith in
          record {
            in_order = writes_none _ k (sym q) refl refl;
            in_labels = sym (ap (λ (l : List ℕ). over l labels₀) (written_refused (ordering_number n cs ls ks labels₀ work₀ order₀) (labels n (blocks cs ls ks)) none) ∙ over_none labels₀);
            in_work = sym (ap (λ (l : List ℕ). over l work₀) (written_refused (ordering_number n cs ls ks labels₀ work₀ order₀) (replicate (2 * 4 ^ n) 0) none) ∙ over_none work₀);
          }

  pub list_refused : {k : ℕ} → k ≡ number n cs ls ks → (k ≡ 0 → ⊥) → LeastOrdering n cs ls ks labels₀ work₀ order₀ labels₀ work₀ order₀ (record { number = k; count = 0 })
  unfolding ordering_number number_with
  list_refused {k} e some =
      refused some (e ∙ sym (first_some (number n cs ls ks) (when (is_too_short n cs labels₀ work₀ order₀) 8) (omega (arith, e))))

  pub order_list_short : number n cs ls ks ≡ 0 → length order₀ < length cs → ordering_number n cs ls ks labels₀ work₀ order₀ ≡ 8
  unfolding ordering_number number_with is_too_short
  order_list_short accepted h =
      first_none (number n cs ls ks) (when (is_too_short n cs labels₀ work₀ order₀) 8) accepted
      ∙ when_yes (is_too_short n cs labels₀ work₀ order₀) 8
      (or_right (ltb (length labels₀) (length cs) || ltb (length work₀) (2 * 4 ^ n)) (ltb (length order₀) (length cs)) (lt-ltb (length order₀) (length cs) h))

  pub order_short : {k : ℕ} → k ≡ number n cs ls ks → k ≡ 0 → length order₀ < length cs
      → LeastOrdering n cs ls ks labels₀ work₀ order₀ labels₀ work₀ order₀ (record { number = 8; count = 0 })
  order_short e z h = refused (omega arith) (sym (order_list_short (sym e ∙ z) h))

  -- Where the order list is long enough, the number is that of the numbering.
  module _ (long : length cs ≤ length order₀) where
    one_fewer : (a b : Bool) → b ≡ false → a || b ≡ a
    one_fewer true b h = refl
    one_fewer false b h = h

    pub same_number : ordering_number n cs ls ks labels₀ work₀ order₀ ≡ numbering_number n cs ls ks labels₀ work₀
    unfolding ordering_number numbering_number is_too_short
    same_number =
        ap (λ (t : Bool). number_with t n cs ls ks)
        (one_fewer (ltb (length labels₀) (length cs) || ltb (length work₀) (2 * 4 ^ n)) (ltb (length order₀) (length cs)) (le-ltb (length order₀) (length cs) long))

    module _ {labels₁ work₁ : List ℕ} {numbered : Numbered} (done : Numbering n cs ls ks labels₀ work₀ labels₁ work₁ numbered) where
      answered : numbered.number ≡ ordering_number n cs ls ks labels₀ work₀ order₀
      answered = ap (λ (r : Numbered). r.number) done.answer ∙ sym same_number

      labels_then : labels₁ ≡ over (if_accepted (ordering_number n cs ls ks labels₀ work₀ order₀) (labels n (blocks cs ls ks))) labels₀
      unfolding labels_written
      labels_then = done.in_labels ∙ ap (λ (k : ℕ). over (if_accepted k (labels n (blocks cs ls ks))) labels₀) (sym same_number)

      work_then : work₁ ≡ over (if_accepted (ordering_number n cs ls ks labels₀ work₀ order₀) (replicate (2 * 4 ^ n) 0)) work₀
      unfolding zeros_written
      work_then = done.in_work ∙ ap (λ (k : ℕ). over (if_accepted k (replicate (2 * 4 ^ n) 0)) work₀) (sym same_number)

      pub numbering_refused : (numbered.number ≡ 0 → ⊥) → LeastOrdering n cs ls ks labels₀ work₀ order₀ labels₁ work₁ order₀ (record { number = numbered.number; count = 0 })
      numbering_refused p = by numbered.number answered p
        where
          by : (k : ℕ) → k ≡ ordering_number n cs ls ks labels₀ work₀ order₀ → (k ≡ 0 → ⊥)
              → LeastOrdering n cs ls ks labels₀ work₀ order₀ labels₁ work₁ order₀ (record { number = k; count = 0 })
          by zero e q = absurd (q refl)
          by (suc k) e q = record { in_order = writes_none _ k (sym e) refl refl; in_labels = labels_then; in_work = work_then }

      -- The order is written, and the work list is as the numbering left it.
      pub ordered : {work₂ order₁ : List ℕ} {count : ℕ} → numbered.number ≡ 0 → Put (cutting_order n (paint (blocks cs ls ks))) order₀ order₁ count → work₂ ≡ work₁
          → LeastOrdering n cs ls ks labels₀ work₀ order₀ labels₁ work₂ order₁ (record { number = 0; count = count })
      ordered z put same = record {
        in_order = writes_all _ (sym answered ∙ z) refl put;
        in_labels = labels_then;
        in_work = same ∙ work_then;
      }
