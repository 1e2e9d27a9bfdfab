-- The steps of the definition, one after the other: those passed leave the rest to the next, and the first refused one refuses it all.
use mathlib.Core.Path.{sym, ◌∙◌}
use Prim.Native.Nat.{ℕ}
use native.Mathlib.Omega.{arith}
use Rattle.headers.specs.Parser.{Parser, give, ◌>>=◌, ◌>>◌}
use Rattle.headers.specs.Space.{space}
use Rattle.headers.specs.Header.{Fields, field, header_over}
use Rattle.headers.specs.Sequence.{past-bad, past_on, past-inside, number-bad, number_on}
use Rattle.headers.proofs.parse.Goals as goal

-- What is left of the header once a step is passed.
abbrev after-maxval : ℕ → ℕ → ℕ → Parser Fields
after-maxval w h m = do
  space
  give (record { width = w; height = h; maxval = m })

abbrev after-height : ℕ → ℕ → Parser Fields
after-height w h = do
  m ← field
  after-maxval w h m

abbrev after-width : ℕ → Parser Fields
after-width w = do
  h ← field
  after-height w h

abbrev after-magic : Parser Fields
after-magic = do
  w ← field
  after-width w

pub returns-in_err-c : goal.returns-in_err-c
unfolding header_over
returns-in_err-c c =
    rw c.from_residual.ensures (record { says = sym (past-bad c.magic.ensures c.in_err-c.was _); inside = omega arith })

pub returns-in_err-width : goal.returns-in_err-width
unfolding header_over
returns-in_err-width c =
    let magic = past_on c.magic.ensures c.in_ok-c.was (λ _. after-magic) in
    rw c.from_residual-in_err-width.ensures (record { says = sym (magic ∙ number-bad c.field.ensures c.in_err-width.was _); inside = omega arith })

pub returns-in_err-height : goal.returns-in_err-height
unfolding header_over
returns-in_err-height c =
    let magic = past_on c.magic.ensures c.in_ok-c.was (λ _. after-magic) in
    let width = magic ∙ number_on c.field.ensures c.in_ok-width.was after-width in
    rw c.from_residual-in_err-height.ensures (record { says = sym (width ∙ number-bad c.field-2.ensures c.in_err-height.was _); inside = omega arith })

pub returns-in_err-maxval : goal.returns-in_err-maxval
unfolding header_over
returns-in_err-maxval c =
    let magic = past_on c.magic.ensures c.in_ok-c.was (λ _. after-magic) in
    let width = magic ∙ number_on c.field.ensures c.in_ok-width.was after-width in
    let height = width ∙ number_on c.field-2.ensures c.in_ok-height.was (after-height c.in_ok-width.width) in
    rw c.from_residual-in_err-maxval.ensures (record { says = sym (height ∙ number-bad c.field-3.ensures c.in_err-maxval.was _); inside = omega arith })

pub returns-in_err-raster : goal.returns-in_err-raster
unfolding header_over
returns-in_err-raster c =
    let magic = past_on c.magic.ensures c.in_ok-c.was (λ _. after-magic) in
    let width = magic ∙ number_on c.field.ensures c.in_ok-width.was after-width in
    let height = width ∙ number_on c.field-2.ensures c.in_ok-height.was (after-height c.in_ok-width.width) in
    let maxval = height ∙ number_on c.field-3.ensures c.in_ok-maxval.was (after-maxval c.in_ok-width.width c.in_ok-height.height) in
    rw c.from_residual-in_err-raster.ensures (record { says = sym (maxval ∙ past-bad c.space.ensures c.in_err-raster.was _); inside = omega arith })

pub returns : goal.returns
unfolding header_over
returns c =
    let magic = past_on c.magic.ensures c.in_ok-c.was (λ _. after-magic) in
    let width = magic ∙ number_on c.field.ensures c.in_ok-width.was after-width in
    let height = width ∙ number_on c.field-2.ensures c.in_ok-height.was (after-height c.in_ok-width.width) in
    let maxval = height ∙ number_on c.field-3.ensures c.in_ok-maxval.was (after-maxval c.in_ok-width.width c.in_ok-height.height) in
    record {
      says = sym (maxval ∙ past_on c.space.ensures c.in_ok-raster.was _);
      inside = past-inside c.space.ensures c.in_ok-raster.was;
    }
