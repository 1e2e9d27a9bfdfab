-- Remarks in a header, where a caller stands: what is answered as before, what is 10, and that white space makes no difference (document 02, a).
use Rattle.std.specs.Prelude.{◌≡◌, refl, ◌⊎◌, List, ◌∷◌, ℕ, ◌≤◌, length}
use Rattle.std.proofs.Math.Path.{sym, ap}
use Rattle.std.proofs.Common.{◌∙◌, inl, inr, ⊎_elim}
use Rattle.sequences.specs.Over.{over}
use Rattle.headers.specs.Parser.{Parsed, refused, got, next}
use Rattle.headers.specs.Header.{Fields, header_over, header}
use Rattle.headers.specs.File.{File, PlainFile}
use Rattle.headers.specs.Layout.{next_on}
use Rattle.headers.specs.Plain.{plain_spaces, plain_header}
use Rattle.headers.specs.Remarks.{Numerals, Unending, plain_header_accepts_exactly, plain_accepted, plain_header_10, unending_remark, sign_after_maxval}
use Rattle.pgm.specs.Picture.{judged, picture, Scan, nothing, said, scan}
use Rattle.pgm.specs.Reading.{refusal, answer, samples_written, Reading}
use Rattle.pgm.specs.Accepted.{file_scan}
use Rattle.pgm.specs.Callers.{bad-header_read}
use Rattle.pgm.specs.declared.Picture.{Picture}

-- What a file held when a number sign was not white space, as document 01 had it.
unfoldable pub plain_scan : List ℕ → Scan
unfolding header_over plain_spaces said judged next
plain_scan bytes = said (next (plain_header bytes) judged)

-- "no new numbers, 10 keeps its place and narrows".
module _ (bytes : List ℕ) where
  same_fields : (f : Fields) (rest : List ℕ) → plain_header bytes ≡ got f rest → scan bytes ≡ plain_scan bytes
  unfolding scan picture plain_scan
  same_fields f rest e = ap said (next_on (plain_accepted bytes rest f e) judged) ∙ sym (ap said (next_on e judged))

  was_10 : (k : ℕ) → plain_header bytes ≡ refused k → (plain_scan bytes).number ≡ 10
  unfolding plain_scan nothing
  was_10 k e = ap (λ (p : Parsed Fields). (said (next p judged)).number) e ∙ plain_header_10 bytes k e

  -- A file without remarks holds what it held, whatever its header says.
  pub plain_file_as_before : (f : Fields) (rest : List ℕ) → PlainFile bytes f rest → scan bytes ≡ plain_scan bytes
  plain_file_as_before f rest x = same_fields f rest ((plain_header_accepts_exactly bytes rest f).1 x)

  -- So does every list of bytes that was not 10.
  as_before_or_10 : (scan bytes ≡ plain_scan bytes) ⊎ ((plain_scan bytes).number ≡ 10)
  as_before_or_10 = go (plain_header bytes) refl
    where
      go : (p : Parsed Fields) → plain_header bytes ≡ p → (scan bytes ≡ plain_scan bytes) ⊎ ((plain_scan bytes).number ≡ 10)
      go (refused k) e = inr (was_10 k e)
      go (got f rest) e = inl (same_fields f rest e)

  pub scanned_as_before : ((plain_scan bytes).number ≡ 10 → ⊥) → scan bytes ≡ plain_scan bytes
  scanned_as_before d = ⊎_elim (λ same. same) (λ ten. absurd (d ten)) as_before_or_10

  -- What has another number now was 10, and what is 10 now was 10.
  pub only_ten_changed : ((scan bytes).number ≡ (plain_scan bytes).number → ⊥) → (plain_scan bytes).number ≡ 10
  only_ten_changed d = ⊎_elim (λ same. absurd (d (ap (λ (s : Scan). s.number) same))) (λ ten. ten) as_before_or_10

  pub ten_narrows : (scan bytes).number ≡ 10 → (plain_scan bytes).number ≡ 10
  ten_narrows t = ⊎_elim (λ same. ap (λ (s : Scan). s.number) (sym same) ∙ t) (λ ten. ten) as_before_or_10

-- What a caller of `read` knows.
module _ {bytes lent bytes' lent' : List ℕ} {r : Picture} (p : Reading bytes lent bytes' lent' r) where
  pub read_as_before : ((plain_scan bytes).number ≡ 10 → ⊥)
      → (r ≡ answer (plain_scan bytes) (length lent)) × (lent' ≡ over (samples_written (plain_scan bytes) (length lent)) lent)
  read_as_before d =
      let same = scanned_as_before bytes d in (
        p.answered.answer_is ∙ ap (λ (s : Scan). answer s (length lent)) same,
        p.answered.in_raster ∙ ap (λ (s : Scan). over (samples_written s (length lent)) lent) same,
      )

  pub read_narrows : (r ≡ answer (plain_scan bytes) (length lent) → ⊥) → (plain_scan bytes).number ≡ 10
  read_narrows d = ⊎_elim (λ same. absurd (d (p.answered.answer_is ∙ ap (λ (s : Scan). answer s (length lent)) same))) (λ ten. ten) (as_before_or_10 bytes)

  -- "a number sign straight after maxval is a bad header".
  pub sign_after_maxval_is_10 : {k : ℕ} {rest l : List ℕ} → bytes ≡ 80 ∷ 53 ∷ l → Numerals (35 ∷ rest) k l → k ≡ 3 → (r ≡ refusal 10) × (lent' ≡ lent)
  sign_after_maxval_is_10 e x three = bad-header_read p (ap header e ∙ sign_after_maxval x three)

  -- "A remark that never ends is a bad header."
  pub unending_remark_is_10 : {k : ℕ} {rest l : List ℕ} → bytes ≡ 80 ∷ 53 ∷ l → Numerals rest k l → k ≤ 2 → Unending rest → (r ≡ refusal 10) × (lent' ≡ lent)
  unending_remark_is_10 e x few u = bad-header_read p (ap header e ∙ unending_remark u x few)

-- "count as white space": two files that differ in their white space alone are answered alike, and leave one raster.
pub white_space_alone : {bytes₁ bytes₂ rest lent after₁ after₂ lent₁ lent₂ : List ℕ} {f : Fields} {r₁ r₂ : Picture} → File bytes₁ f rest → File bytes₂ f rest
    → Reading bytes₁ lent after₁ lent₁ r₁ → Reading bytes₂ lent after₂ lent₂ r₂ → (r₁ ≡ r₂) × (lent₁ ≡ lent₂)
white_space_alone {bytes₁} {bytes₂} {rest} {lent} {f = f} x₁ x₂ p₁ p₂ =
    let same : scan bytes₁ ≡ scan bytes₂ = file_scan bytes₁ rest f x₁ ∙ sym (file_scan bytes₂ rest f x₂) in (
      p₁.answered.answer_is ∙ ap (λ (s : Scan). answer s (length lent)) same ∙ sym p₂.answered.answer_is,
      p₁.answered.in_raster ∙ ap (λ (s : Scan). over (samples_written s (length lent)) lent) same ∙ sym p₂.answered.in_raster,
    )
