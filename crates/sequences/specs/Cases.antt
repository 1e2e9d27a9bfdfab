-- The first of several causes that applies, and tests that agree.
use Rattle.std.specs.Prelude.{◌≡◌, refl, Bool, true, false, not, ◌&&◌, ◌||◌, List, [], ℕ, zero, suc, ◌<◌}
use Rattle.std.proofs.Common.{sym, ap, ap₂, true≢false, arith}
use Rattle.std.proofs.lemmas.Bool.{false≢true}

-- The first number unless it is 0, else the second: causes are asked one after the other.
unfoldable pub first : ℕ → ℕ → ℕ
first zero b = b
first (suc a) b = suc a

-- A cause's number where its test holds, else 0.
unfoldable pub when : Bool → ℕ → ℕ
when true number = number
when false number = 0

pub first_none : (a b : ℕ) → a ≡ 0 → first a b ≡ b
unfolding first
first_none a b h = ap (λ (x : ℕ). first x b) h

pub first_some : (a b : ℕ) → 0 < a → first a b ≡ a
unfolding first
first_some zero b h = absurd (omega arith)
first_some (suc a) b h = refl

-- No cause applies exactly where neither does.
pub first-zero : (a b : ℕ) → first a b ≡ 0 → (a ≡ 0) × (b ≡ 0)
unfolding first
first-zero zero b h = (refl, h)
first-zero (suc a) b h = absurd (omega arith)

pub when_yes : (t : Bool) (k : ℕ) → t ≡ true → when t k ≡ k
unfolding when
when_yes t k h = ap (λ (b : Bool). when b k) h

pub when_no : (t : Bool) (k : ℕ) → t ≡ false → when t k ≡ 0
unfolding when
when_no t k h = ap (λ (b : Bool). when b k) h

pub when_zero : (t : Bool) (k : ℕ) → 0 < k → when t k ≡ 0 → t ≡ false
unfolding when
when_zero true k p h = absurd (omega arith)
when_zero false k p h = refl

-- Two tests that hold together are one.
pub same_test : (a b : Bool) → (a ≡ true → b ≡ true) → (b ≡ true → a ≡ true) → a ≡ b
same_test true b f g = sym (f refl)
same_test false true f g = g refl
same_test false false f g = refl

-- Two tests asked one after the other.
pub and_stop : (a b : Bool) → a ≡ false → a && b ≡ false
and_stop a b h = ap (λ (t : Bool). t && b) h

pub and_go_on : (a b : Bool) → a ≡ true → a && b ≡ b
and_go_on a b h = ap (λ (t : Bool). t && b) h

pub and_fail : (a b : Bool) → b ≡ false → a && b ≡ false
and_fail true b h = h
and_fail false b h = refl

pub or_right : (a b : Bool) → b ≡ true → a || b ≡ true
or_right true b h = refl
or_right false b h = h

pub and_both : (a b : Bool) → a && b ≡ true → (a ≡ true) × (b ≡ true)
and_both true b h = (refl, h)
and_both false b h = absurd (false≢true h)

pub neither : (a b : Bool) → a || b ≡ false → (a ≡ false) × (b ≡ false)
neither true b h = absurd (true≢false h)
neither false b h = (refl, h)

pub both_and : (a b : Bool) → a ≡ true → b ≡ true → a && b ≡ true
both_and a b p q = ap₂ ◌&&◌ p q

-- A test that is met before the other is asked.
pub then_both : (a b : Bool) → ◌≡◌ {A = Bool} (elim a [ true ↦ b | false ↦ false ]) true → (a ≡ true) × (b ≡ true)
then_both true b h = (refl, h)
then_both false b h = absurd (false≢true h)

pub not_flips : (b : Bool) → not b ≡ true → b ≡ false
not_flips true h = absurd (false≢true h)
not_flips false h = refl

-- What is written where the number is 0; a refusal writes nothing.
unfoldable pub if_accepted {ℓ} : {A : Type ℓ} → ℕ → List A → List A
if_accepted zero written = written
if_accepted (suc k) written = []

pub written_accepted {ℓ} : {A : Type ℓ} (number : ℕ) (written : List A) → number ≡ 0 → if_accepted number written ≡ written
unfolding if_accepted
written_accepted number written h = ap (λ (k : ℕ). if_accepted k written) h

pub written_refused {ℓ} : {A : Type ℓ} (number : ℕ) (written : List A) → 0 < number → if_accepted number written ≡ []
unfolding if_accepted
written_refused zero written h = absurd (omega arith)
written_refused (suc k) written h = refl

-- A count where the number is 0; a refusal returns "number, counts 0".
unfoldable pub count_if_accepted : ℕ → ℕ → ℕ
count_if_accepted zero count = count
count_if_accepted (suc k) count = 0

pub count_accepted : (k count : ℕ) → k ≡ 0 → count_if_accepted k count ≡ count
unfolding count_if_accepted
count_accepted k count h = ap (λ (i : ℕ). count_if_accepted i count) h

pub count_refused : (k count : ℕ) → 0 < k → count_if_accepted k count ≡ 0
unfolding count_if_accepted
count_refused zero count h = absurd (omega arith)
count_refused (suc k) count h = refl
