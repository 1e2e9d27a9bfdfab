-- What each parser takes is a part of the layout, and each such part is taken.
use Rattle.std.specs.Prelude.{◌≡◌, refl, Bool, true, false, List, [], ◌∷◌, ◌++◌, ℕ, ◌≤◌, length}
use Rattle.std.proofs.Common.{sym, ap, ◌∙◌, arith}
use Rattle.std.proofs.Math.Decide.{dec_le}
use Rattle.headers.specs.Parser.{Parsed, refused, got, bad, Parser, next, byte}
use Rattle.headers.specs.Number.{is_digit, digits, behind, decimal_value, number}
use Rattle.headers.specs.NumberLaws.{digits_more, digits_stop, behind_more, behind_stop, number_good, number_none, number_long}
use Rattle.headers.specs.File.{Each, none, more, Numeral}

-- A list goes on with a byte that passes a test.
pub data Starts (test : ℕ → Bool) : List ℕ → Type 0 where
  first : {b : ℕ} {bytes : List ℕ} → test b ≡ true → Starts test (b ∷ bytes)

-- A list does not.
pub data Stops (test : ℕ → Bool) : List ℕ → Type 0 where
  ended : Stops test []
  other : {b : ℕ} {bytes : List ℕ} → test b ≡ false → Stops test (b ∷ bytes)

-- A refusal is no value.
pub not_got : {A : Type 0} {k : ℕ} {a : A} {rest : List ℕ} → ◌≡◌ {A = Parsed A} (refused k) (got a rest) → ⊥
not_got e = let z : ◌≡◌ {A = ℕ} 0 1 = cc in omega arith

-- Two steps passed: the first passed, and the second after it.
pub next_passed : {A B : Type 0} {b : B} {rest : List ℕ} (p : Parsed A) (then : A → Parser B) → next p then ≡ got b rest
    → (a : A) × (mid : List ℕ) × (p ≡ got a mid) × (then a mid ≡ got b rest)
unfolding next
next_passed (refused k) then e = absurd (not_got e)
next_passed (got a mid) then e = (a, mid, refl, e)

pub next_on : {A B : Type 0} {p : Parsed A} {a : A} {mid : List ℕ} → p ≡ got a mid → (then : A → Parser B) → next p then ≡ then a mid
unfolding next
next_on e then = ap (λ q. next q then) e

pub next-bad : {A B : Type 0} {p : Parsed A} → p ≡ bad → (then : A → Parser B) → next p then ≡ bad
unfolding next
next-bad e then = ap (λ q. next q then) e

-- One byte.
pub byte_taken : (test : ℕ → Bool) (bytes rest : List ℕ) → byte test bytes ≡ got tt rest → (b : ℕ) × (test b ≡ true) × (bytes ≡ b ∷ rest)
unfolding byte
byte_taken test [] rest e = absurd (not_got e)
byte_taken test (b ∷ bytes) rest e = pick (test b) refl e
  where
    pick : (t : Bool) → test b ≡ t → elim t as (λ x. Parsed (Unit {0})) [ true ↦ got tt bytes | false ↦ bad ] ≡ got tt rest
        → (c : ℕ) × (test c ≡ true) × (b ∷ bytes ≡ c ∷ rest)
    pick true h e = (b, h, cc)
    pick false h e = absurd (not_got e)

-- Numbers.
digits_split : (bytes : List ℕ) → Each is_digit (digits bytes) × (bytes ≡ digits bytes ++ behind bytes)
unfolding digits behind
digits_split [] = (none, refl)
digits_split (b ∷ bytes) = pick (is_digit b) refl (digits_split bytes)
  where
    pick : (t : Bool) → is_digit b ≡ t → (Each is_digit (digits bytes) × (bytes ≡ digits bytes ++ behind bytes))
        → Each is_digit (digits (b ∷ bytes)) × (b ∷ bytes ≡ digits (b ∷ bytes) ++ behind (b ∷ bytes))
    pick true h (w, e) =
        rw (digits_more b bytes h, behind_more b bytes h) (more h w, ap (λ (l : List ℕ). b ∷ l) e)
    pick false h r = rw (digits_stop b bytes h, behind_stop b bytes h) (none, refl)

digits_all : {ds : List ℕ} (rest : List ℕ) → Each is_digit ds → Stops is_digit rest → (digits (ds ++ rest) ≡ ds) × (behind (ds ++ rest) ≡ rest)
unfolding digits behind
digits_all rest none ended = (refl, refl)
digits_all rest none (other {b} {bytes} h) = (digits_stop b bytes h, behind_stop b bytes h)
digits_all rest (more {b} {bytes = ds} h w) stop =
    let (d, e) = digits_all rest w stop in
    (digits_more b (ds ++ rest) h ∙ ap (λ (l : List ℕ). b ∷ l) d, behind_more b (ds ++ rest) h ∙ e)

pub number_taken : (bytes rest : List ℕ) (v : ℕ) → number bytes ≡ got v rest → (ds : List ℕ) × Numeral ds v × (bytes ≡ ds ++ rest)
number_taken bytes rest v e = go (dec_le 1 (length (digits bytes))) (dec_le (length (digits bytes)) 5)
  where
    go : Dec (1 ≤ length (digits bytes)) → Dec (length (digits bytes) ≤ 5) → (ds : List ℕ) × Numeral ds v × (bytes ≡ ds ++ rest)
    go (no d) b = absurd (not_got (sym (number_none bytes (omega arith)) ∙ e))
    go (yes some) (no d) = absurd (not_got (sym (number_long bytes (omega arith)) ∙ e))
    go (yes some) (yes few) =
        let g = number_good bytes some few in
        let w : decimal_value 0 (digits bytes) ≡ v = cc in
        let t : behind bytes ≡ rest = cc in
        let (each, split) = digits_split bytes in
        (digits bytes, record { some = some; few = few; each = each; worth = w }, split ∙ ap (λ (l : List ℕ). digits bytes ++ l) t)

pub number_takes : (ds rest : List ℕ) (v : ℕ) → Numeral ds v → Stops is_digit rest → number (ds ++ rest) ≡ got v rest
number_takes ds rest v n stop =
    let (d, b) = digits_all rest n.each stop in
    number_good (ds ++ rest) (rw d n.some) (rw d n.few) ∙ rw (d, b, n.worth) refl
