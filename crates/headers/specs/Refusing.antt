-- The parsers of a header refuse with 10 alone.
use Rattle.std.specs.Prelude.{◌≡◌, refl, Bool, true, false, List, [], ◌∷◌, ℕ, ◌≤◌, eqb, length}
use Rattle.std.proofs.Common.{sym, ap, ◌∙◌, arith}
use Rattle.std.proofs.Math.Decide.{dec_le}
use Rattle.headers.specs.Parser.{Parsed, refused, got, Parser, next, byte, byte_takes, byte_refuses}
use Rattle.headers.specs.Number.{digits, number}
use Rattle.headers.specs.NumberLaws.{number_good, number_none, number_long}
use Rattle.headers.specs.Header.{magic}
use Rattle.headers.specs.Layout.{not_got}

abbrev pub Refuses10 : {A : Type 0} → Parser A → Type 0
Refuses10 {A} p = (bytes : List ℕ) (k : ℕ) → ◌≡◌ {A = Parsed A} (p bytes) (refused k) → k ≡ 10

pub same_number : {A : Type 0} {j k : ℕ} → ◌≡◌ {A = Parsed A} (refused j) (refused k) → k ≡ j
same_number e = cc

pub never_refused : {A : Type 0} {a : A} {rest : List ℕ} {k j : ℕ} → ◌≡◌ {A = Parsed A} (got a rest) (refused k) → k ≡ j
never_refused e = absurd (not_got (sym e))

pub byte_10 : (test : ℕ → Bool) → Refuses10 (byte test)
unfolding byte
byte_10 test [] k e = same_number e
byte_10 test (b ∷ bytes) k e = pick (test b) refl
  where
    pick : (t : Bool) → test b ≡ t → k ≡ 10
    pick true h = never_refused (sym (byte_takes test b bytes h) ∙ e)
    pick false h = same_number (sym (byte_refuses test b bytes h) ∙ e)

pub next_10 : {A B : Type 0} (p : Parsed A) (then : A → Parser B) (k : ℕ) → ((j : ℕ) → p ≡ refused j → j ≡ 10) → ((a : A) → Refuses10 (then a))
    → next p then ≡ refused k → k ≡ 10
unfolding next
next_10 (refused j) then k h g e = h k (ap refused (sym (same_number e)))
next_10 (got a rest) then k h g e = g a rest k e

pub number_10 : Refuses10 number
number_10 bytes k e = go (dec_le 1 (length (digits bytes))) (dec_le (length (digits bytes)) 5)
  where
    go : Dec (1 ≤ length (digits bytes)) → Dec (length (digits bytes) ≤ 5) → k ≡ 10
    go (no d) b = same_number (sym (number_none bytes (omega arith)) ∙ e)
    go (yes some) (no d) = same_number (sym (number_long bytes (omega arith)) ∙ e)
    go (yes some) (yes few) = never_refused (sym (number_good bytes some few) ∙ e)

pub magic_10 : Refuses10 magic
unfolding magic
magic_10 bytes k e = next_10 (byte (λ b. eqb b 80) bytes) _ k (byte_10 _ bytes) (λ _. byte_10 _) e
