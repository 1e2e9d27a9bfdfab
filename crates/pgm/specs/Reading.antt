-- What the reader promises: the answer, and the later content of the raster and of the bytes.
use Rattle.std.specs.Prelude.{◌≡◌, ltb, length}
use Rattle.std.proofs.Math.Path.{refl, sym, ap}
use Rattle.std.proofs.Common.{◌∙◌, arith, lt-ltb, le-ltb}
use mathlib.Core.List.{List, []}
use Prim.Native.Nat.{ℕ, zero, suc, ◌^◌, ◌≤◌, ◌<◌}
use Rattle.sequences.specs.Cases.{first, when, if_accepted, first_some, first_none, when_yes, when_no, written_accepted, written_refused}
use Rattle.sequences.specs.Over.{over, over_none}
use Rattle.pgm.specs.Picture.{Scan, scan}
use Rattle.pgm.specs.declared.Picture.{Picture}

-- "8 for the raster comes after 14" (document 02, i): the number for what a file holds and a lent raster of `room` entries, of which
-- 4^n are needed.
unfoldable pub read_number : Scan → ℕ → ℕ
unfolding first when
read_number s room = first s.number (when (ltb room (4 ^ s.n)) 8)

-- A refusal: "number, zeros" (document 01, the table of causes).
unfoldable pub refusal : ℕ → Picture
refusal k = record { number = k; n = 0; maxval = 0; count = 0 }

-- The answer with a number: "n, maxval" of an accepted picture, and how many samples were written.
unfoldable pub answer_with : ℕ → Scan → Picture
unfolding refusal
answer_with zero s = record { number = 0; n = s.n; maxval = s.maxval; count = length s.raster }
answer_with (suc k) s = refusal (suc k)

-- The answer for a lent raster of `room` entries.
unfoldable pub answer : Scan → ℕ → Picture
unfolding answer_with read_number
answer s room = answer_with (read_number s room) s

-- "The reader now writes its samples into a lent raster" (document 02, i): none on a refusal.
unfoldable pub samples_written : Scan → ℕ → List ℕ
unfolding if_accepted read_number
samples_written s room = if_accepted (read_number s room) s.raster

-- The answer to what a file holds, and the lent raster before and after.
pub record Answered (s : Scan) (raster raster' : List ℕ) (r : Picture) : Type 0 where
  pub answer_is : r ≡ answer s (length raster)
  pub in_raster : raster' ≡ over (samples_written s (length raster)) raster

-- The promise of `read`: the bytes and the raster, before and after.
pub record Reading (bytes raster bytes' raster' : List ℕ) (r : Picture) : Type 0 where
  pub answered : Answered (scan bytes) raster raster' r
  pub in_bytes : bytes' ≡ bytes

-- The answers in the order of the causes: one of 10 to 14, then 8, then acceptance.
module _ (s : Scan) (raster : List ℕ) where
  refused_with : {k : ℕ} → 0 < k → read_number s (length raster) ≡ k → Answered s raster raster (refusal k)
  unfolding answer answer_with samples_written
  refused_with {k} some e =
      let none : samples_written s (length raster) ≡ [] = written_refused (read_number s (length raster)) s.raster (omega (arith, e)) in
      record { answer_is = sym (ap (λ (m : ℕ). answer_with m s) e ∙ pick k some); in_raster = sym (ap (λ (l : List ℕ). over l raster) none ∙ over_none raster) }
    where
      pick : (m : ℕ) → 0 < m → answer_with m s ≡ refusal m
      pick zero h = absurd (omega arith)
      pick (suc m) h = refl

  pub cause_answered : {k : ℕ} → 0 < k → s.number ≡ k → Answered s raster raster (refusal k)
  unfolding read_number
  cause_answered some e = refused_with some (first_some s.number (when (ltb (length raster) (4 ^ s.n)) 8) (omega (arith, e)) ∙ e)

  module _ (none : s.number ≡ 0) where
    after_14 : read_number s (length raster) ≡ when (ltb (length raster) (4 ^ s.n)) 8
    unfolding read_number
    after_14 = first_none s.number (when (ltb (length raster) (4 ^ s.n)) 8) none

    pub short_answered : length raster < 4 ^ s.n → Answered s raster raster (refusal 8)
    short_answered h = refused_with (omega arith) (after_14 ∙ when_yes (ltb (length raster) (4 ^ s.n)) 8 (lt-ltb (length raster) (4 ^ s.n) h))

    -- Room enough: the samples are written.
    module _ (enough : 4 ^ s.n ≤ length raster) where
      read_accepted : read_number s (length raster) ≡ 0
      read_accepted = after_14 ∙ when_no (ltb (length raster) (4 ^ s.n)) 8 (le-ltb (length raster) (4 ^ s.n) enough)

      all_written : samples_written s (length raster) ≡ s.raster
      unfolding samples_written
      all_written = written_accepted (read_number s (length raster)) s.raster read_accepted

      answer_accepted : answer s (length raster) ≡ answer_with 0 s
      unfolding answer
      answer_accepted = ap (λ (m : ℕ). answer_with m s) read_accepted

      pub stored_answered : {raster' : List ℕ} → raster' ≡ over s.raster raster → Answered s raster raster' (answer_with 0 s)
      stored_answered e = record { answer_is = sym answer_accepted; in_raster = e ∙ ap (λ (l : List ℕ). over l raster) (sym all_written) }
