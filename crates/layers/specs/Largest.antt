-- The largest colour of any number of scans, pixel by pixel: neither their order nor their grouping matters.
use Rattle.std.specs.Prelude.{◌≡◌, ℕ, zero, suc, ◌^◌, max, length, replicate}
use Rattle.std.proofs.Math.Path.{refl, sym, ap, ap₂}
use Rattle.std.proofs.Common.{◌∙◌, arith}
use Rattle.std.proofs.Math.Logic.{∥∥₁_elim}
use mathlib.Core.List.{List, [], ◌∷◌, ◌++◌, zip_with, Perm, Permᴰ, is_set}
use Rattle.std.proofs.Math.Nat.{ℕ_set}
use Rattle.quadtree.specs.Blocks.{blocks, paint}
use Rattle.quadtree.specs.BlockLists.{BlockList, list_of, image_of}
use Rattle.overlaying.specs.Larger.{larger}

-- ---- the larger colours of two images

pub larger_commutes : (px qx : List ℕ) → larger px qx ≡ larger qx px
unfolding larger zip_with
larger_commutes [] [] = refl
larger_commutes [] (y ∷ qx) = refl
larger_commutes (x ∷ px) [] = refl
larger_commutes (x ∷ px) (y ∷ qx) = let e : max x y ≡ max y x = omega arith in ap₂ (λ (v : ℕ) (l : List ℕ). v ∷ l) e (larger_commutes px qx)

pub larger_associates : (px qx rx : List ℕ) → larger (larger px qx) rx ≡ larger px (larger qx rx)
unfolding larger zip_with
larger_associates [] [] rx = refl
larger_associates [] (y ∷ qx) [] = refl
larger_associates [] (y ∷ qx) (z ∷ rx) = refl
larger_associates (x ∷ px) [] rx = refl
larger_associates (x ∷ px) (y ∷ qx) [] = refl
larger_associates (x ∷ px) (y ∷ qx) (z ∷ rx) =
    let e : max (max x y) z ≡ max x (max y z) = omega arith in ap₂ (λ (v : ℕ) (l : List ℕ). v ∷ l) e (larger_associates px qx rx)

pub larger_itself : (px : List ℕ) → larger px px ≡ px
unfolding larger zip_with
larger_itself [] = refl
larger_itself (x ∷ px) = let e : max x x ≡ x = omega arith in ap₂ (λ (v : ℕ) (l : List ℕ). v ∷ l) e (larger_itself px)

-- An image that is 0 all over changes nothing.
pub larger_zeros : (px : List ℕ) (k : ℕ) → length px ≡ k → larger px (replicate k 0) ≡ px
unfolding larger zip_with
larger_zeros [] zero h = refl
larger_zeros [] (suc k) h = absurd (omega arith)
larger_zeros (x ∷ px) zero h = absurd (omega arith)
larger_zeros (x ∷ px) (suc k) h = let e : max x 0 ≡ x = omega arith in ap₂ (λ (v : ℕ) (l : List ℕ). v ∷ l) e (larger_zeros px k (omega arith))

-- ---- the largest colours of some scans

-- Pixel by pixel the largest colour of some scans of side 2^n; 0 where there is no scan.
unfoldable pub largest : ℕ → List BlockList → List ℕ
unfolding larger blocks paint
largest n [] = replicate (4 ^ n) 0
largest n (a ∷ xs) = larger (image_of a) (largest n xs)

module _ (n : ℕ) where
  pub largest_one : (a : BlockList) → length (image_of a) ≡ 4 ^ n → largest n (a ∷ []) ≡ image_of a
  unfolding largest
  largest_one a h = larger_zeros (image_of a) (4 ^ n) h

  -- Two groups of scans.
  pub largest-append : (xs ys : List BlockList) → length (largest n ys) ≡ 4 ^ n → largest n (xs ++ ys) ≡ larger (largest n xs) (largest n ys)
  unfolding largest
  largest-append [] ys h = sym (larger_commutes (replicate (4 ^ n) 0) (largest n ys) ∙ larger_zeros (largest n ys) (4 ^ n) h)
  largest-append (a ∷ xs) ys h =
      ap (larger (image_of a)) (largest-append xs ys h) ∙ sym (larger_associates (image_of a) (largest n xs) (largest n ys))

  reordered : {xs ys : List BlockList} → Permᴰ xs ys → largest n xs ≡ largest n ys
  unfolding largest
  reordered Permᴰ.nil = refl
  reordered (Permᴰ.cons e d) = ap₂ (λ (a : BlockList) (px : List ℕ). larger (image_of a) px) e (reordered d)
  reordered (Permᴰ.swap {a} {b} {a'} {b'} {l} e f) =
      sym (larger_associates (image_of a) (image_of b) (largest n l))
      ∙ ap (λ (px : List ℕ). larger px (largest n l)) (ap₂ (λ (c d : BlockList). larger (image_of c) (image_of d)) e f ∙ larger_commutes (image_of b') (image_of a'))
      ∙ larger_associates (image_of a') (image_of b') (largest n l)
  reordered (Permᴰ.trans c d) = reordered c ∙ reordered d

  -- The same scans in another order.
  pub largest_permuted : {xs ys : List BlockList} → Perm xs ys → largest n xs ≡ largest n ys
  largest_permuted {xs} {ys} p = ∥∥₁_elim p (is_set ℕ_set (largest n xs) (largest n ys)) reordered

-- Three scans of 2 by 2: four pixels, a square, four others.
three_scans : largest 1 (
    list_of (0 ∷ 1 ∷ 2 ∷ 3 ∷ []) (0 ∷ 0 ∷ 0 ∷ 0 ∷ []) (9 ∷ 1 ∷ 2 ∷ 0 ∷ [])
    ∷ list_of (0 ∷ []) (1 ∷ []) (3 ∷ [])
    ∷ list_of (0 ∷ 1 ∷ 2 ∷ 3 ∷ []) (0 ∷ 0 ∷ 0 ∷ 0 ∷ []) (0 ∷ 0 ∷ 2 ∷ 5 ∷ [])
    ∷ []
    ) ≡ 9 ∷ 3 ∷ 3 ∷ 5 ∷ []
unfolding largest
three_scans = refl
