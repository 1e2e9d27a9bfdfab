-- One step after the other: a refused step refuses the rest, and a passed one leaves the rest to the next parser.
use Rattle.std.specs.Prelude.{◌≡◌, Option, None, Some, List, ℕ, ◌≤◌, length, drop}
use Rattle.std.proofs.Common.{sym, ◌∙◌, arith}
use Rattle.std.proofs.Math.Path.{ap}
use Rattle.headers.specs.Parser.{Parsed, refused, Parser, next}
use Rattle.headers.specs.Header.{Fields}
use Rattle.headers.specs.Steps.{past, past_end, numbered, headed, header_end, Passes, Numbers, Heads}
use Rattle.headers.specs.declared.step.Cursor.{Cursor}
use Rattle.headers.specs.declared.Header.{Header}

module _ {bytes : List ℕ} {found : Parsed (Unit {0})} {r : Option Cursor} (p : Passes bytes found r) where
  pub past-bad : {B : Type 0} → r ≡ None → (more : Unit {0} → Parser B) → next found more ≡ refused 10
  unfolding next
  past-bad e more = ap (λ f. next f more) (sym p.says ∙ ap (past bytes) e)

  pub past_on : {B : Type 0} {c : Cursor} → r ≡ Some c → (more : Unit {0} → Parser B) → next found more ≡ more tt (drop c.at bytes)
  unfolding next
  past_on e more = ap (λ f. next f more) (sym p.says ∙ ap (past bytes) e)

  pub past-inside : {c : Cursor} → r ≡ Some c → c.at ≤ length bytes
  past-inside e = omega (arith, p.inside, ap past_end e)

module _ {bytes : List ℕ} {found : Parsed ℕ} {r : Option (ℕ × Cursor)} (p : Numbers bytes found r) where
  pub number-bad : {B : Type 0} → r ≡ None → (more : ℕ → Parser B) → next found more ≡ refused 10
  unfolding next
  number-bad e more = ap (λ f. next f more) (sym p.says ∙ ap (numbered bytes) e)

  pub number_on : {B : Type 0} {v : ℕ} {c : Cursor} → r ≡ Some (v, c) → (more : ℕ → Parser B) → next found more ≡ more v (drop c.at bytes)
  unfolding next
  number_on e more = ap (λ f. next f more) (sym p.says ∙ ap (numbered bytes) e)

module _ {bytes : List ℕ} {found : Parsed Fields} {r : Option Header} (p : Heads bytes found r) where
  pub head-bad : {B : Type 0} → r ≡ None → (more : Fields → Parser B) → next found more ≡ refused 10
  unfolding next
  head-bad e more = ap (λ f. next f more) (sym p.says ∙ ap (headed bytes) e)

  pub head_on : {B : Type 0} {h : Header} → r ≡ Some h → (more : Fields → Parser B)
      → next found more ≡ more (record { width = h.width; height = h.height; maxval = h.maxval }) (drop h.raster.at bytes)
  unfolding next
  head_on e more = ap (λ f. next f more) (sym p.says ∙ ap (headed bytes) e)

  pub head-inside : {h : Header} → r ≡ Some h → h.raster.at ≤ length bytes
  head-inside e = omega (arith, p.inside, ap header_end e)
