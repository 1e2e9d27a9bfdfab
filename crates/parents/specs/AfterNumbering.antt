-- What the numbering of the regions of an accepted list leaves: their parents can be found.
use Rattle.std.specs.Prelude.{◌≡◌, List, ℕ, ◌*◌, ◌^◌, ◌≤◌, length, replicate}
use Rattle.std.proofs.Common.{sym, ap, ◌∙◌, subst, arith}
use Rattle.std.proofs.lemmas.List.{length-replicate}
use Rattle.sequences.specs.Over.{length_over}
use Rattle.quadtree.specs.Blocks.{blocks, paint}
use Rattle.quadtree.specs.Accepted.{number-zero}
use Rattle.components.specs.Numbers.{numbers}
use Rattle.links.specs.Relabelled.{labels_room, relabelled, relabelled_paints}
use Rattle.regions.specs.Promise.{Numbering}
use Rattle.regions.specs.Callers.{list_accepted, long_enough, labels_at_exit, work_at_exit, regions_at_exit}
use Rattle.regions.specs.declared.Numbered.{Numbered}
use Rattle.parents.specs.Promise.{RegionsNumbered}

module _ {n : ℕ} {cs ls ks labels₀ work₀ labels₁ work₁ : List ℕ} {numbered : Numbered} (done : Numbering n cs ls ks labels₀ work₀ labels₁ work₁ numbered)
    (ok : numbered.number ≡ 0) where
  pub work_long : 2 * 4 ^ n ≤ length work₁
  work_long =
      let zeros : length {A = ℕ} (replicate (2 * 4 ^ n) 0) ≡ 2 * 4 ^ n = length-replicate (2 * 4 ^ n) 0 in
      omega (arith, ap length (work_at_exit done ok), length_over (replicate (2 * 4 ^ n) 0) work₀ (omega (arith, zeros, (long_enough done ok).1)), (long_enough done ok).1)

  -- The labels paint the region numbers.
  pub labels-paint : paint (blocks cs ls labels₁) ≡ numbers n (paint (blocks cs ls ks))
  labels-paint =
      ap (λ (l : List ℕ). paint (blocks cs ls l)) (labels_at_exit done ok)
      ∙ relabelled_paints n cs ls ks (list_accepted done ok) labels₀ (long_enough done ok).0

  pub regions-numbered : {count : ℕ} → count ≡ numbered.regions → RegionsNumbered n count cs ls labels₁ work₁
  regions-numbered {count} c =
      subst (λ (l : List ℕ). RegionsNumbered n count cs ls l work₁) (sym (labels_at_exit done ok))
      (record {
        labelled = relabelled n cs ls ks (list_accepted done ok) labels₀ (long_enough done ok).0;
        equal = (number-zero n cs ls ks (list_accepted done ok)).equal_levels;
        enough = labels_room n cs ls ks (list_accepted done ok) labels₀ (long_enough done ok).0;
        image = paint (blocks cs ls ks);
        numbered = relabelled_paints n cs ls ks (list_accepted done ok) labels₀ (long_enough done ok).0;
        counted = c ∙ regions_at_exit done ok;
        room = work_long;
      })
