-- The number of a block list, cause by cause.
use Rattle.std.specs.Prelude.{◌≡◌, Bool, true, false, ◌&&◌, List, ℕ, ◌≤◌, ◌<◌, length, ltb}
use Rattle.std.proofs.Math.Path.{sym}
use Rattle.std.proofs.Common.{ap, ap₂, ◌∙◌, arith, lt-ltb, le-ltb, eq-eqb, ne_eqb}
use Rattle.std.proofs.Math.Bool.{not}
use Rattle.std.proofs.Math.Dec.{eqb}
use Rattle.sequences.specs.Cases.{first, when, first_none, first_some, when_yes, when_no}
use Rattle.quadtree.specs.Blocks.{blocks}
use Rattle.quadtree.specs.Number.{number, cover, siblings}
use Rattle.quadtree.specs.Lists.{EqualLengths}
use Rattle.blocks.specs.Covering.{CoverOf}

module _ (n : ℕ) (cs ls ks : List ℕ) where
  unlike : Bool
  unlike = not (eqb (length cs) (length ls) && eqb (length ls) (length ks))

  after_n : ℕ
  after_n = first (when unlike 2) (first (cover n 0 (blocks cs ls ks)) (when (siblings n (blocks cs ls ks)) 7))

  pub number_large : 8 < n → 1 ≡ number n cs ls ks
  unfolding number unlike after_n
  number_large h =
      let e : when (ltb 8 n) 1 ≡ 1 = when_yes (ltb 8 n) 1 (lt-ltb 8 n h) in
      sym (first_some (when (ltb 8 n) 1) after_n (omega arith) ∙ e)

  number_small : n ≤ 8 → number n cs ls ks ≡ after_n
  unfolding number unlike after_n
  number_small h = first_none (when (ltb 8 n) 1) after_n (when_no (ltb 8 n) 1 (le-ltb 8 n h))

  number_unlike : n ≤ 8 → unlike ≡ true → 2 ≡ number n cs ls ks
  unfolding after_n
  number_unlike h u =
      let e : when unlike 2 ≡ 2 = when_yes unlike 2 u in
      sym (number_small h ∙ first_some (when unlike 2) (first (cover n 0 (blocks cs ls ks)) (when (siblings n (blocks cs ls ks)) 7)) (omega arith) ∙ e)

  pub number-levels_unlike : n ≤ 8 → (length cs ≡ length ls → ⊥) → 2 ≡ number n cs ls ks
  unfolding unlike
  number-levels_unlike h u = number_unlike h (ap (λ (t : Bool). not (t && eqb (length ls) (length ks))) (ne_eqb (length cs) (length ls) u))

  pub number-colours_unlike : n ≤ 8 → length cs ≡ length ls → (length ls ≡ length ks → ⊥) → 2 ≡ number n cs ls ks
  unfolding unlike
  number-colours_unlike h e u =
      number_unlike h (ap₂ (λ (s t : Bool). not (s && t)) (eq-eqb (length cs) (length ls) e) (ne_eqb (length ls) (length ks) u))

  number-alike : n ≤ 8 → EqualLengths cs ls ks → number n cs ls ks ≡ first (cover n 0 (blocks cs ls ks)) (when (siblings n (blocks cs ls ks)) 7)
  unfolding after_n unlike
  number-alike h long =
      number_small h
      ∙ first_none (when unlike 2) (first (cover n 0 (blocks cs ls ks)) (when (siblings n (blocks cs ls ks)) 7))
      (when_no unlike 2 (ap₂ (λ (s t : Bool). not (s && t)) (eq-eqb (length cs) (length ls) long.levels_too) (eq-eqb (length ls) (length ks) long.colours_too)))

  -- The pass over the blocks found the fault, of whatever colours.
  module _ {fault : ℕ} (small : n ≤ 8) (levels_too : length cs ≡ length ls) (colours_too : length ls ≡ length ks) (covering : CoverOf n cs ls fault) where
    long : EqualLengths cs ls ks
    long = record { levels_too = levels_too; colours_too = colours_too }

    covered : fault ≡ cover n 0 (blocks cs ls ks)
    covered = covering ks (sym colours_too)

    pub number-cover : (fault ≡ 0 → ⊥) → fault ≡ number n cs ls ks
    number-cover some =
        covered ∙ sym (number-alike small long ∙ first_some (cover n 0 (blocks cs ls ks)) (when (siblings n (blocks cs ls ks)) 7) (omega (arith, covered)))

    number_last : fault ≡ 0 → number n cs ls ks ≡ when (siblings n (blocks cs ls ks)) 7
    number_last none = number-alike small long ∙ first_none (cover n 0 (blocks cs ls ks)) (when (siblings n (blocks cs ls ks)) 7) (sym covered ∙ none)

    pub number-siblings : {found : Bool} → fault ≡ 0 → found ≡ siblings n (blocks cs ls ks) → found ≡ true → 7 ≡ number n cs ls ks
    number-siblings none e some = sym (number_last none ∙ when_yes (siblings n (blocks cs ls ks)) 7 (sym e ∙ some))

    pub number_accepted : {found : Bool} → fault ≡ 0 → found ≡ siblings n (blocks cs ls ks) → found ≡ false → 0 ≡ number n cs ls ks
    number_accepted none e unfound = sym (number_last none ∙ when_no (siblings n (blocks cs ls ks)) 7 (sym e ∙ unfound))
