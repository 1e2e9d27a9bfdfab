-- Entries moved one after the other, in the order of the rows.
use Rattle.std.specs.Prelude.{◌≡◌, List, length, set}
use Rattle.std.proofs.Math.Path.{refl, ap}
use Rattle.std.proofs.Common.{sym, ◌∙◌, ext_get_or}
use Prim.Native.Nat.{ℕ, zero, suc, ◌+◌, ◌^◌, ◌≤◌, ◌<◌}
use Rattle.std.proofs.Math.Decide.{ℕ_discrete, dec_lt}
use native.Mathlib.Omega.{arith}
use Rattle.std.proofs.Math.ListN.{get_or, length-set}
use Rattle.std.proofs.Math.Seq.{get_or-set_same, get_or-set_other}
use Rattle.sequences.specs.Over.{over, length_over, over_inside, over_beyond}
use Rattle.rearranging.specs.Ways.{Way, rearranged, source_place, target_place, length-rearranged, entry_there, target_inside, target_apart, target_taken}

-- The target with the entry of the pixel at the place i of the rows in it.
unfoldable pub with_entry : Way → ℕ → List ℕ → ℕ → List ℕ → List ℕ
unfolding source_place target_place
with_entry way n source i target = set target (target_place way n i) (get_or source (source_place way n i) 0)

-- The same of `count` pixels, from the place i on.
unfoldable pub moved : Way → ℕ → List ℕ → ℕ → ℕ → List ℕ → List ℕ
unfolding with_entry
moved way n source i zero target = target
moved way n source i (suc count) target = moved way n source (i + 1) count (with_entry way n source i target)

module _ (way : Way) (n : ℕ) (source : List ℕ) where
  length_with : (i : ℕ) (target : List ℕ) → length (with_entry way n source i target) ≡ length target
  unfolding with_entry
  length_with i target = length-set target (target_place way n i) (get_or source (source_place way n i) 0)

  pub length_moved : (i count : ℕ) (target : List ℕ) → length (moved way n source i count target) ≡ length target
  unfolding moved
  length_moved i zero target = refl
  length_moved i (suc count) target = length_moved (i + 1) count (with_entry way n source i target) ∙ length_with i target

  -- One part after another.
  pub moved_more : (i a b : ℕ) (target : List ℕ) → moved way n source i (a + b) target ≡ moved way n source (i + a) b (moved way n source i a target)
  unfolding moved
  moved_more i zero b target =
      let e : 0 + b ≡ b = omega arith in
      let f : i ≡ i + 0 = omega arith in
      ap (λ (k : ℕ). moved way n source i k target) e ∙ ap (λ (j : ℕ). moved way n source j b target) f
  moved_more i (suc a) b target =
      let e : suc a + b ≡ suc (a + b) = omega arith in
      let f : i + 1 + a ≡ i + suc a = omega arith in
      ap (λ (k : ℕ). moved way n source i k target) e
      ∙ moved_more (i + 1) a b (with_entry way n source i target)
      ∙ ap (λ (j : ℕ). moved way n source j b (moved way n source (i + 1) a (with_entry way n source i target))) f

  -- A place that none of the entries goes to.
  untouched : (i count : ℕ) (target : List ℕ) (c : ℕ) → ((j : ℕ) → i ≤ j → j < i + count → c ≡ target_place way n j → ⊥)
      → get_or (moved way n source i count target) c 0 ≡ get_or target c 0
  unfolding moved with_entry
  untouched i zero target c apart = refl
  untouched i (suc count) target c apart =
      untouched (i + 1) count (with_entry way n source i target) c (λ j a b. apart j (omega arith) (omega arith))
      ∙ get_or-set_other target (target_place way n i) c (get_or source (source_place way n i) 0) 0 (apart i (omega arith) (omega arith))

  -- The place of one of the entries.
  entry-moved : (i count : ℕ) (target : List ℕ) → i + count ≤ 4 ^ n → 4 ^ n ≤ length target → (j : ℕ) → i ≤ j → j < i + count
      → get_or (moved way n source i count target) (target_place way n j) 0 ≡ get_or source (source_place way n j) 0
  unfolding moved with_entry
  entry-moved i zero target within room j a b = absurd (omega arith)
  entry-moved i (suc count) target within room j a b =
      pick (ℕ_discrete j i) (entry-moved (i + 1) count (with_entry way n source i target) (omega arith) (omega (arith, length_with i target)) j)
    where
      first : get_or (moved way n source (i + 1) count (with_entry way n source i target)) (target_place way n i) 0 ≡ get_or source (source_place way n i) 0
      first =
          untouched (i + 1) count (with_entry way n source i target) (target_place way n i)
          (λ k c d e. let same : i ≡ k = target_apart way n i k (omega arith) (omega arith) e in let none : ⊥ = omega arith in none)
          ∙ get_or-set_same target (target_place way n i) (get_or source (source_place way n i) 0) 0 (omega (arith, target_inside way n i (omega arith)))

      pick : Dec (j ≡ i) → (i + 1 ≤ j → j < i + 1 + count → get_or (moved way n source (i + 1) count (with_entry way n source i target)) (target_place way n j) 0 ≡ get_or source (source_place way n j) 0)
          → get_or (moved way n source (i + 1) count (with_entry way n source i target)) (target_place way n j) 0 ≡ get_or source (source_place way n j) 0
      pick (yes e) later = rw e first
      pick (no d) later = later (omega arith) (omega arith)

  -- All entries moved: the rearranged raster at the front of the target, and what lies beyond unchanged.
  pub all_moved : (target : List ℕ) → 4 ^ n ≤ length target → moved way n source 0 (4 ^ n) target ≡ over (rearranged way n source) target
  all_moved target room =
      ext_get_or 0 (moved way n source 0 (4 ^ n) target) (over (rearranged way n source) target)
      (length_moved 0 (4 ^ n) target ∙ sym (length_over (rearranged way n source) target (omega (arith, length-rearranged way n source))))
      (λ c h. pick c (dec_lt c (4 ^ n)))
    where
      pick : (c : ℕ) → Dec (c < 4 ^ n) → get_or (moved way n source 0 (4 ^ n) target) c 0 ≡ get_or (over (rearranged way n source) target) c 0
      pick c (yes inside) =
          let from = target_taken way n c inside in
          let i : ℕ = from.0 in
          let same : get_or (moved way n source 0 (4 ^ n) target) (target_place way n i) 0 ≡ get_or (rearranged way n source) (target_place way n i) 0 =
          entry-moved 0 (4 ^ n) target (omega arith) room i (omega arith) (omega (arith, from.1)) ∙ sym (entry_there way n source i from.1) in
          ap (λ (d : ℕ). get_or (moved way n source 0 (4 ^ n) target) d 0) (sym from.2)
          ∙ same
          ∙ ap (λ (d : ℕ). get_or (rearranged way n source) d 0) from.2
          ∙ sym (over_inside (rearranged way n source) target c (omega (arith, length-rearranged way n source)))
      pick c (no beyond) =
          untouched 0 (4 ^ n) target c (λ j a b e. let in_image : target_place way n j < 4 ^ n = target_inside way n j (omega arith) in let none : ⊥ = omega arith in none)
          ∙ sym (over_beyond (rearranged way n source) target c (omega (arith, length-rearranged way n source)))
