-- The place tells the word: the first, then V at even places and H at odd ones.
use mathlib.Core.Path.{ap}
use mathlib.Core.List.{◌∷◌}
use Prim.Native.Nat.{◌%◌, ◌/◌}
use native.Mathlib.Omega.{arith}
use Rattle.lattice.specs.Directions.{x_of, y_of}
use Rattle.lattice.specs.CycleForm.{inside_says}
use Rattle.decimals.specs.Decimal.{decimal}
use Rattle.svg.specs.Svg.{word, word_even, word_odd}
use Rattle.answers.specs.Put.{put_same}
use Rattle.svg.proofs.text.put_corner.Goals as goal

pub returns-then-i-eq0 : goal.returns-then-i-eq0
returns-then-i-eq0 c =
    let a = c.args in
    put_same (word 0 a.c) (word a.i a.c) (ap (λ i. word i a.c) c.if-i-eq0.true) c.put_first.ensures

pub put_number-requires : goal.put_number-requires
unfolding y_of
put_number-requires c = omega (arith, inside_says c.args.c c.requires.1)

pub returns-then-i-eq0-2 : goal.returns-then-i-eq0-2
unfolding y_of
returns-then-i-eq0-2 c =
    let a = c.args in
    put_same (86 ∷ decimal (a.c / 512)) (word a.i a.c) (word_even a.i a.c c.if-i-eq0.false c.if-i-eq0-2.true) c.put_number.ensures

pub returns : goal.returns
unfolding x_of
returns c =
    let a = c.args in
    put_same (72 ∷ decimal (a.c % 512)) (word a.i a.c) (word_odd a.i a.c (omega arith)) c.put_number-2.ensures
