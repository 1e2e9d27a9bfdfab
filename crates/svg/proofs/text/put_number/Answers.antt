-- One, two or three digits, stored after the letter, are the decimal digits of a number below 1000.
use native.Mathlib.Omega.{arith}
use lib.ListN.{length-set}
use Rattle.svg.specs.Stores.{put_one, put_two, put_three}
use Rattle.svg.proofs.text.put_number.Goals as goal

pub bounds-text-1 : goal.bounds-text-1
bounds-text-1 c = simp length-set (omega arith)

pub shape_of-text-then-v-lt10 : goal.shape_of-text-then-v-lt10
shape_of-text-then-v-lt10 c = simp length-set

pub returns-then-v-lt10 : goal.returns-then-v-lt10
returns-then-v-lt10 c = let a = c.args in put_one a.text.now a.letter a.v c.requires.0 (omega (arith, c.if-v-lt10.true))

pub bounds-text-1-then-v-lt100 : goal.bounds-text-1-then-v-lt100
bounds-text-1-then-v-lt100 c = simp length-set (omega arith)

pub bounds-text-2 : goal.bounds-text-2
bounds-text-2 c = simp length-set (omega arith)

pub shape_of-text-then-v-lt100 : goal.shape_of-text-then-v-lt100
shape_of-text-then-v-lt100 c = simp length-set

pub returns-then-v-lt100 : goal.returns-then-v-lt100
returns-then-v-lt100 c = let a = c.args in put_two a.text.now a.letter a.v c.requires.0 c.if-v-lt10.false c.if-v-lt100.true

pub bounds-text-1-2 : goal.bounds-text-1-2
bounds-text-1-2 c = simp length-set (omega arith)

pub bounds-text-2-2 : goal.bounds-text-2-2
bounds-text-2-2 c = simp length-set (omega arith)

pub bounds-text-3 : goal.bounds-text-3
bounds-text-3 c = simp length-set (omega arith)

pub shape_of-text : goal.shape_of-text
shape_of-text c = simp length-set

pub returns : goal.returns
returns c = let a = c.args in put_three a.text.now a.letter a.v c.requires.0 c.if-v-lt100.false c.requires.1
