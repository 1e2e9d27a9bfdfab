-- The samples of a picture: one byte each, or two.
use Rattle.std.specs.Prelude.{◌≡◌, refl, Bool, true, false, ◌||◌, List, [], ◌∷◌, ℕ, zero, suc, ◌+◌, ◌*◌, ◌≤◌, ◌<◌, ltb, length, get_or}
use Rattle.std.proofs.Common.{ap, arith, ltb-false, lt-ltb, le-ltb, true≢false}
use Rattle.sequences.specs.Cases.{or_right}
use Rattle.sequences.specs.Ranges.{tabulate, length-tabulate, tabulate_at}

-- "For maxval above 255 a sample is two bytes" (document 02, i).
unfoldable pub is_wide : ℕ → Bool
is_wide maxval = ltb 255 maxval

-- How many bytes a sample is.
unfoldable pub sample_bytes : Bool → ℕ
sample_bytes false = 1
sample_bytes true = 2

-- The greatest sample of a width.
unfoldable pub greatest_of : Bool → ℕ
greatest_of false = 255
greatest_of true = 65535

-- The sample i of the bytes that a header leaves; of two bytes "the most significant first" (document 02, i).
unfoldable pub sample_at : Bool → List ℕ → ℕ → ℕ
sample_at false bytes i = get_or bytes i 0
sample_at true bytes i = 256 * get_or bytes (2 * i) 0 + get_or bytes (2 * i + 1) 0

-- The first `count` samples.
unfoldable pub samples_of : Bool → ℕ → List ℕ → List ℕ
unfolding tabulate sample_at
samples_of wide count bytes = tabulate count (sample_at wide bytes)

-- Whether one of them is above maxval.
unfoldable pub any_above : ℕ → List ℕ → Bool
any_above maxval [] = false
any_above maxval (v ∷ values) = ltb maxval v || any_above maxval values

pub length-samples : (wide : Bool) (count : ℕ) (bytes : List ℕ) → length (samples_of wide count bytes) ≡ count
unfolding samples_of
length-samples wide count bytes = length-tabulate count (sample_at wide bytes)

pub samples_at : (wide : Bool) (count : ℕ) (bytes : List ℕ) (i : ℕ) → i < count → get_or (samples_of wide count bytes) i 0 ≡ sample_at wide bytes i
unfolding samples_of
samples_at wide count bytes i h = tabulate_at count (sample_at wide bytes) i h

pub one_byte : {wide : Bool} → wide ≡ false → sample_bytes wide ≡ 1
unfolding sample_bytes
one_byte e = ap sample_bytes e

pub two_bytes : {wide : Bool} → wide ≡ true → sample_bytes wide ≡ 2
unfolding sample_bytes
two_bytes e = ap sample_bytes e

-- Of bytes no sample is above the greatest of its width.
pub at_most_greatest : (wide : Bool) (bytes : List ℕ) (i : ℕ) → ((k : ℕ) → get_or bytes k 0 < 256) → sample_at wide bytes i ≤ greatest_of wide
unfolding sample_at greatest_of
at_most_greatest false bytes i each = omega (arith, each i)
at_most_greatest true bytes i each = omega (arith, each (2 * i), each (2 * i + 1))

-- No sample has less than a byte.
pub bytes_at_least : (wide : Bool) (count : ℕ) → count ≤ sample_bytes wide * count
unfolding sample_bytes
bytes_at_least false count = omega arith
bytes_at_least true count = omega arith

pub neither : (a b : Bool) → a || b ≡ false → (a ≡ false) × (b ≡ false)
neither true b e = absurd (true≢false e)
neither false b e = (refl, e)

-- None is above maxval exactly where each is at most maxval.
pub each_at_most : (maxval : ℕ) (values : List ℕ) → any_above maxval values ≡ false → (i : ℕ) → i < length values → get_or values i 0 ≤ maxval
unfolding any_above
each_at_most maxval [] e i l = absurd (omega arith)
each_at_most maxval (v ∷ values) e zero l = ltb-false maxval v (neither (ltb maxval v) (any_above maxval values) e).0
each_at_most maxval (v ∷ values) e (suc i) l = each_at_most maxval values (neither (ltb maxval v) (any_above maxval values) e).1 i (omega arith)

pub none_above : (maxval : ℕ) (values : List ℕ) → ((i : ℕ) → i < length values → get_or values i 0 ≤ maxval) → any_above maxval values ≡ false
unfolding any_above
none_above maxval [] h = refl
none_above maxval (v ∷ values) h = rw (le-ltb maxval v (h 0 (omega arith))) (none_above maxval values (λ i l. h (suc i) (omega arith)))

-- One that is above is found.
pub some_above : (maxval : ℕ) (values : List ℕ) (i : ℕ) → i < length values → maxval < get_or values i 0 → any_above maxval values ≡ true
unfolding any_above
some_above maxval [] i l h = absurd (omega arith)
some_above maxval (v ∷ values) zero l h = rw (lt-ltb maxval v h) refl
some_above maxval (v ∷ values) (suc i) l h = or_right (ltb maxval v) (any_above maxval values) (some_above maxval values i (omega arith) h)
