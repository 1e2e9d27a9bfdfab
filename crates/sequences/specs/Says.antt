-- What a yes or no says.
use Rattle.std.specs.Prelude.{◌≡◌, refl, ◌↔◌, Bool, true, false, not}
use Rattle.std.proofs.Common.{sym, ◌∙◌}
use Rattle.std.proofs.lemmas.Bool.{false≢true, not-true, not-false}

-- The answer `ok` says whether P holds.
abbrev pub Says : Bool → Type 0 → Type 0
Says ok P = (ok ≡ true) ↔ P

pub says_yes : {P : Type 0} → P → Says true P
says_yes p = (λ e. p, λ p. refl)

pub says_no : {P : Type 0} → (P → ⊥) → Says false P
says_no n = (λ e. absurd (false≢true e), λ p. absurd (n p))

-- Where the code asks `!ok`: the answer was no, or yes.
pub denied : {ok : Bool} {P : Type 0} → Says ok P → not ok ≡ true → P → ⊥
denied {ok} s e p = false≢true (sym (not-true ok e) ∙ s.1 p)

pub granted : {ok : Bool} {P : Type 0} → Says ok P → not ok ≡ false → P
granted {ok} s e = s.0 (not-false ok e)
