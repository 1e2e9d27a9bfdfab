-- Parsers of a byte list: each takes its part from the front, or refuses with a number of document 01's table.
use Rattle.std.specs.Prelude.{◌≡◌, refl, Bool, true, false, List, [], ◌∷◌, ℕ}

-- What a parser finds: a value and the bytes after it, or the number of the cause that refuses the list.
pub data Parsed (A : Type 0) : Type 0 where
  refused : ℕ → Parsed A
  got : A → List ℕ → Parsed A

abbrev pub Parser : Type 0 → Type 0
Parser A = List ℕ → Parsed A

-- "A header that breaks off is a bad header": so is one that goes on with another byte than it must (10).
abbrev pub bad : {A : Type 0} → Parsed A
bad = refused 10

-- One parser after the other: the second sees what the first leaves.
unfoldable pub next : {A B : Type 0} → Parsed A → (A → Parser B) → Parsed B
next (refused number) more = refused number
next (got value rest) more = more value rest

abbrev pub ◌>>=◌ : {A B : Type 0} → Parser A → (A → Parser B) → Parser B
◌>>=◌ one more = λ bytes. next (one bytes) more

abbrev pub ◌>>◌ : {A B : Type 0} → Parser A → Parser B → Parser B
◌>>◌ one other = λ bytes. next (one bytes) (λ _. other)

-- Takes nothing and gives a value.
abbrev pub give : {A : Type 0} → A → Parser A
give value = λ bytes. got value bytes

-- Takes one byte that passes a test.
unfoldable pub byte : (ℕ → Bool) → Parser (Unit {0})
byte test [] = bad
byte test (b ∷ bytes) = elim (test b) [ true ↦ got tt bytes | false ↦ bad ]

pub byte_takes : (test : ℕ → Bool) (b : ℕ) (rest : List ℕ) → test b ≡ true → byte test (b ∷ rest) ≡ got tt rest
unfolding byte
byte_takes test b rest e = rw (e, byte) refl

pub byte_refuses : (test : ℕ → Bool) (b : ℕ) (rest : List ℕ) → test b ≡ false → byte test (b ∷ rest) ≡ bad
unfolding byte
byte_refuses test b rest e = rw (e, byte) refl

-- What follows where a test passes, and a refusal with a number where it fails.
unfoldable pub demand : {A : Type 0} → ℕ → Bool → Parsed A → Parsed A
demand number true more = more
demand number false more = refused number
