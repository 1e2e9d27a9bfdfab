-- The two loops over the samples: those from the place i on are left.
use mathlib.Core.Path.{◌≡◌, refl, sym, ap, ◌∙◌, subst}
use mathlib.Core.Bool.{Bool, true, false, ◌||◌, or_assoc, or-false}
use mathlib.Core.List.{List, [], ◌∷◌, map}
use Prim.Native.Nat.{ℕ, suc, ◌+◌, ◌*◌, ◌-◌, ◌≤◌, ◌<◌}
use native.Mathlib.Omega.{arith}
use lib.Dec.{ltb}
use lib.ListN.{length, get_or, set}
use Rattle.sequences.specs.Ranges.{range, tabulate}
use Rattle.sequences.specs.Over.{over}
use Rattle.answers.specs.Put.{PutSoFar, put_none, put_entry, put_all}
use Rattle.pgm.specs.Samples.{sample_bytes, sample_at, samples_of, greatest_of, any_above, length-samples, samples_at, one_byte, two_bytes, at_most_greatest, none_above}

-- The bytes of one sample, among `size` bytes.
module _ (size i : ℕ) {wide : Bool} (room : sample_bytes wide * (i + 1) ≤ size) where
  pub room-of-one : wide ≡ false → i < size
  room-of-one e =
      let r : 1 * (i + 1) ≤ size = subst (λ (k : ℕ). k * (i + 1) ≤ size) (one_byte e) room in
      omega arith

  pub room-of-two : wide ≡ true → 2 * i + 1 < size
  room-of-two e =
      let r : 2 * (i + 1) ≤ size = subst (λ (k : ℕ). k * (i + 1) ≤ size) (two_bytes e) room in
      omega arith

-- Where there is room for all samples there is room for each.
pub room-of-each : (size count : ℕ) (wide : Bool) (i : ℕ) → sample_bytes wide * count ≤ size → i < count → sample_bytes wide * (i + 1) ≤ size
unfolding sample_bytes
room-of-each size count false i room h = omega arith
room-of-each size count true i room h = omega arith

-- One sample, at its width.
module _ (bytes : List ℕ) (i : ℕ) {wide : Bool} where
  pub sample-of-one : wide ≡ false → get_or bytes i 0 ≡ sample_at wide bytes i
  unfolding sample_at
  sample-of-one e = rw e refl

  pub sample-of-two : wide ≡ true → 256 * get_or bytes (2 * i) 0 + get_or bytes (2 * i + 1) 0 ≡ sample_at wide bytes i
  unfolding sample_at
  sample-of-two e = rw e refl

module _ (wide : Bool) (count : ℕ) (bytes : List ℕ) where
  abbrev left : ℕ → List ℕ
  left i = map (sample_at wide bytes) (range i (count - i))

  all_left : left 0 ≡ samples_of wide count bytes
  unfolding samples_of tabulate
  all_left = let e : count - 0 ≡ count = omega arith in ap (λ (k : ℕ). map (sample_at wide bytes) (range 0 k)) e

  next-left : (i : ℕ) → i < count → left i ≡ sample_at wide bytes i ∷ left (i + 1)
  unfolding range
  next-left i h =
      let e : count - i ≡ suc (count - (i + 1)) = omega arith in
      let f : suc i ≡ i + 1 = omega arith in
      ap (λ (k : ℕ). map (sample_at wide bytes) (range i k)) e ∙ ap (λ (j : ℕ). sample_at wide bytes i ∷ map (sample_at wide bytes) (range j (count - (i + 1)))) f

  none_left : (i : ℕ) → count ≤ i → left i ≡ []
  unfolding range
  none_left i h = let e : count - i ≡ 0 = omega arith in ap (λ (k : ℕ). map (sample_at wide bytes) (range i k)) e

  -- One is above maxval where one was found or is left.
  module _ (maxval : ℕ) where
    abbrev pub Looked : Bool → ℕ → Type 0
    Looked found i = found || any_above maxval (left i) ≡ any_above maxval (samples_of wide count bytes)

    pub looked-at-greatest : maxval ≡ greatest_of wide → ((k : ℕ) → get_or bytes k 0 < 256) → false ≡ any_above maxval (samples_of wide count bytes)
    looked-at-greatest e each =
        sym (none_above maxval (samples_of wide count bytes)
        (λ i h. let l : i < count = omega (arith, length-samples wide count bytes) in omega (arith, samples_at wide count bytes i l, at_most_greatest wide bytes i each, e)))

    pub looked-none : Looked false 0
    looked-none = ap (any_above maxval) all_left

    pub looked-more : (found : Bool) (v i : ℕ) → i < count → v ≡ sample_at wide bytes i → Looked found i → Looked (found || ltb maxval v) (i + 1)
    unfolding any_above
    looked-more found v i h e s =
        or_assoc found (ltb maxval v) (any_above maxval (left (i + 1)))
        ∙ ap (λ (k : ℕ). found || (ltb maxval k || any_above maxval (left (i + 1)))) e
        ∙ sym (ap (λ (l : List ℕ). found || any_above maxval l) (next-left i h))
        ∙ s

    pub looked-all : (found : Bool) (i : ℕ) → count ≤ i → Looked found i → found ≡ any_above maxval (samples_of wide count bytes)
    unfolding any_above
    looked-all found i h s = sym (or-false found) ∙ sym (ap (λ (l : List ℕ). found || any_above maxval l) (none_left i h)) ∙ s

  -- The samples before i stand at the front of the raster.
  abbrev pub Stored : List ℕ → List ℕ → ℕ → Type 0
  Stored old raster i = PutSoFar (samples_of wide count bytes) (left i) old raster i

  pub stored_none : (old : List ℕ) → Stored old old 0
  stored_none old = subst (λ (l : List ℕ). PutSoFar (samples_of wide count bytes) l old old 0) (sym all_left) (put_none (samples_of wide count bytes) old)

  pub stored-all : {old raster : List ℕ} (i : ℕ) → count ≤ i → Stored old raster i → raster ≡ over (samples_of wide count bytes) old
  stored-all i h s = (put_all s (none_left i h)).list

  pub stored_more : {old raster : List ℕ} (v i : ℕ) → i < count → i < length raster → v ≡ sample_at wide bytes i → Stored old raster i
      → Stored old (set raster i v) (i + 1)
  stored_more v i h room e s = put_entry s v (left (i + 1)) (next-left i h ∙ ap (λ (k : ℕ). k ∷ left (i + 1)) (sym e)) room
