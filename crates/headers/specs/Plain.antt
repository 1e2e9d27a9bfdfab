-- White space and headers as document 01 had them: "White space is one or more of blank, tab, LF, CR", "A number sign is not white space."
use Rattle.std.specs.Prelude.{◌≡◌, refl, Bool, true, false, List, [], ◌∷◌, ◌++◌, ℕ, ◌≤◌, length}
use Rattle.std.proofs.Common.{sym, ap, ◌∙◌, arith}
use Rattle.headers.specs.Parser.{got, Parser, byte_takes, next, ◌>>◌}
use Rattle.headers.specs.Space.{is_space, space}
use Rattle.headers.specs.Number.{is_digit}
use Rattle.headers.specs.Bytes.{digit_not_space, space_not_digit}
use Rattle.headers.specs.Header.{Fields, header_over}
use Rattle.headers.specs.File.{Each, none, more, PlainWhite}
use Rattle.headers.specs.Layout.{Starts, first, Stops, other, next_passed, byte_taken}
use Rattle.headers.specs.Refusing.{Refuses10, never_refused, byte_10, next_10}
use Rattle.headers.specs.ReadsSpace.{ReadsSpace}

-- What is left past the bytes of white space at the front, if any.
unfoldable pub trimmed : List ℕ → List ℕ
unfolding is_space
trimmed [] = []
trimmed (b ∷ bytes) = elim (is_space b) [ true ↦ trimmed bytes | false ↦ b ∷ bytes ]

-- One or more of them.
unfoldable pub plain_spaces : Parser (Unit {0})
unfolding space trimmed next
plain_spaces = do
  space
  λ bytes. got tt (trimmed bytes)

-- The header of document 01, without remarks.
abbrev pub plain_header : Parser Fields
plain_header = header_over plain_spaces

trimmed-more : (b : ℕ) (bytes : List ℕ) → is_space b ≡ true → trimmed (b ∷ bytes) ≡ trimmed bytes
unfolding trimmed
trimmed-more b bytes e = rw (e, trimmed) refl

trimmed_stop : (b : ℕ) (bytes : List ℕ) → is_space b ≡ false → trimmed (b ∷ bytes) ≡ b ∷ bytes
unfolding trimmed
trimmed_stop b bytes e = rw (e, trimmed) refl

trimmed_split : (bytes : List ℕ) → (s : List ℕ) × Each is_space s × (bytes ≡ s ++ trimmed bytes)
unfolding trimmed
trimmed_split [] = ([], none, refl)
trimmed_split (b ∷ bytes) = pick (is_space b) refl (trimmed_split bytes)
  where
    pick : (t : Bool) → is_space b ≡ t → ((s : List ℕ) × Each is_space s × (bytes ≡ s ++ trimmed bytes))
        → (s : List ℕ) × Each is_space s × (b ∷ bytes ≡ s ++ trimmed (b ∷ bytes))
    pick true h (s, w, e) = (b ∷ s, more h w, ap (λ (l : List ℕ). b ∷ l) (e ∙ ap (λ (l : List ℕ). s ++ l) (sym (trimmed-more b bytes h))))
    pick false h r = ([], none, sym (trimmed_stop b bytes h))

trimmed_all : {s : List ℕ} (rest : List ℕ) → Each is_space s → Starts is_digit rest → trimmed (s ++ rest) ≡ rest
trimmed_all rest none (first {b} {bytes} h) = trimmed_stop b bytes (digit_not_space b h)
trimmed_all rest (more {b} {bytes = s} h w) start = trimmed-more b (s ++ rest) h ∙ trimmed_all rest w start

plain_taken : (bytes rest : List ℕ) → plain_spaces bytes ≡ got tt rest → (s : List ℕ) × PlainWhite s × (bytes ≡ s ++ rest)
unfolding plain_spaces
plain_taken bytes rest e =
    let (u, mid, p, q) = next_passed (space bytes) (λ _ l. got tt (trimmed l)) e in
    let (b, h, start) = byte_taken is_space bytes mid p in
    let (s, w, split) = trimmed_split mid in
    let t : trimmed mid ≡ rest = cc in
    (b ∷ s, record { some = omega arith; each = more h w }, start ∙ ap (λ (l : List ℕ). b ∷ l) (split ∙ ap (λ (l : List ℕ). s ++ l) t))

each_taken : {s : List ℕ} (rest : List ℕ) → Each is_space s → 1 ≤ length s → Starts is_digit rest → plain_spaces (s ++ rest) ≡ got tt rest
unfolding plain_spaces
each_taken rest none h start = absurd (omega arith)
each_taken rest (more {b} {bytes = s} e w) h start =
    ap (λ p. next p (λ _ l. got tt (trimmed l))) (byte_takes is_space b (s ++ rest) e) ∙ ap (got tt) (trimmed_all rest w start)

each_begins : {s : List ℕ} (rest : List ℕ) → Each is_space s → 1 ≤ length s → Stops is_digit (s ++ rest)
each_begins rest none h = absurd (omega arith)
each_begins rest (more {b} e w) h = other (space_not_digit b e)

plain_10 : Refuses10 plain_spaces
unfolding plain_spaces
plain_10 bytes k e = next_10 (space bytes) _ k (byte_10 is_space bytes) (λ _ l j h. never_refused h) e

pub reads_plain : ReadsSpace plain_spaces PlainWhite
reads_plain =
    record {
      taken = plain_taken;
      takes = λ s rest w start. each_taken rest w.each w.some start;
      begins = λ s rest w. each_begins rest w.each w.some;
      refuses = plain_10;
    }
