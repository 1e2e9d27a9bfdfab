-- What both functions promise: the answer, and the later content of the target.
use Rattle.std.specs.Prelude.{◌≡◌, refl, List, ℕ, zero, suc, ◌^◌, ◌≤◌, ◌<◌, ltb, length}
use Rattle.std.proofs.Common.{sym, ap, ◌∙◌, arith, lt-ltb, le-ltb, ltb-false}
use Rattle.sequences.specs.Cases.{when_yes, when_no}
use Rattle.sequences.specs.Over.{over}
use Rattle.sequences.specs.Powers.{pow4_mono}
use Rattle.location.specs.Levels.{pixels_of, pixels_are_power}
use Rattle.answers.specs.Answers.{Writes, writes_none, writes_all}
use Rattle.answers.specs.Rasters.{source_number, source_large, source_unlike, source_whole, source_accepted}
use Rattle.answers.specs.declared.Written.{Written}
use Rattle.rearranging.specs.Ways.{Way, rearranged, length-rearranged}

-- "Checks: 1, then 9 for the source, then 8 for a target of 4^n" (document 02, e), by the lengths of source and target.
unfoldable pub rearrange_number : ℕ → ℕ → ℕ → ℕ
unfolding source_number
rearrange_number n source target = source_number n source (ltb target (4 ^ n))

-- A raster rearranged, the target before and target' after: the number, how many entries were written, and the rearranged raster at the
-- front of the target; a refusal writes nothing.
pub record Rearranging (way : Way) (n : ℕ) (source target target' : List ℕ) (r : Written) : Type 0 where
  pub writes : Writes (rearrange_number n (length source) (length target)) (rearranged way n source) target target' r

-- The number cause by cause, by the lengths of source and target.
module _ (n source target : ℕ) where
  pub rearrange_large : 8 < n → rearrange_number n source target ≡ 1
  unfolding rearrange_number
  rearrange_large h = source_large n source (ltb target (4 ^ n)) h

  module _ (small : n ≤ 8) where
    pub rearrange_unlike : (source ≡ 4 ^ n → ⊥) → rearrange_number n source target ≡ 9
    unfolding rearrange_number
    rearrange_unlike h = source_unlike n source (ltb target (4 ^ n)) small h

    module _ (whole : source ≡ 4 ^ n) where
      pub rearrange_short : target < 4 ^ n → rearrange_number n source target ≡ 8
      unfolding rearrange_number
      rearrange_short h = source_whole n source (ltb target (4 ^ n)) small whole ∙ when_yes (ltb target (4 ^ n)) 8 (lt-ltb target (4 ^ n) h)

      pub rearrange_accepted : 4 ^ n ≤ target → rearrange_number n source target ≡ 0
      unfolding rearrange_number
      rearrange_accepted h = source_whole n source (ltb target (4 ^ n)) small whole ∙ when_no (ltb target (4 ^ n)) 8 (le-ltb target (4 ^ n) h)

-- Where it is 0: n up to 8, a source of 4^n entries and room for them.
pub record Fits (n : ℕ) (source target : ℕ) : Type 0 where
  pub small : n ≤ 8
  pub whole : source ≡ 4 ^ n
  pub room : 4 ^ n ≤ target

pub fits : {n source target : ℕ} → rearrange_number n source target ≡ 0 → Fits n source target
unfolding rearrange_number
fits {n} {source} {target} e =
    let a = source_accepted n source (ltb target (4 ^ n)) e in
    record { small = a.0; whole = a.1; room = ltb-false target (4 ^ n) a.2 }

-- The answers in the order of the tests, and what was moved; `whole` is the number of pixels.
module _ (way : Way) {n : ℕ} {source target : List ℕ} {fault : ℕ} (e : fault ≡ rearrange_number n (length source) (length target)) where
  pub rearrange_refused : {r : Written} → (fault ≡ 0 → ⊥) → r ≡ record { number = fault; count = 0 } → Rearranging way n source target target r
  rearrange_refused {r} some answered =
      record { writes = pick fault e some (ap (λ (x : Written). x.number) answered) (ap (λ (x : Written). x.count) answered) }
    where
      pick : (k : ℕ) → k ≡ rearrange_number n (length source) (length target) → (k ≡ 0 → ⊥) → r.number ≡ k → r.count ≡ 0
          → Writes (rearrange_number n (length source) (length target)) (rearranged way n source) target target r
      pick zero h d a b = absurd (d refl)
      pick (suc k) h d a b = writes_none r k (sym h) a b

  pub rearrange_done : {target' : List ℕ} {whole : ℕ} → fault ≡ 0 → whole ≡ pixels_of n → target' ≡ over (rearranged way n source) target
      → Rearranging way n source target target' (record { number = 0; count = whole })
  rearrange_done {target'} {whole} z size h =
      let number : rearrange_number n (length source) (length target) ≡ 0 = sym e ∙ z in
      let all : whole ≡ 4 ^ n = size ∙ pixels_are_power n (omega (arith, (fits number).small)) in
      record { writes = writes_all (record { number = 0; count = whole }) number refl (record { count_is = all ∙ sym (length-rearranged way n source); list = h }) }

-- The number of pixels there.
pub at_most_65536 : {n source target whole : ℕ} → Fits n source target → whole ≡ pixels_of n → whole ≤ 65536
at_most_65536 {n} f size = omega (arith, size, pixels_are_power n (omega (arith, f.small)), pow4_mono f.small)
