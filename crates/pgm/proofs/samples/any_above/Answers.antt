use mathlib.Core.Path.{◌∙◌}
use native.Mathlib.Omega.{arith}
use Rattle.pgm.proofs.Sampling.{room-of-each, looked-at-greatest, looked-none, looked-more, looked-all}
use Rattle.pgm.proofs.samples.any_above.Goals as goal

pub returns-then-maxval-greatest : goal.returns-then-maxval-greatest
returns-then-maxval-greatest c = looked-at-greatest _ _ _ _ (c.if-maxval-greatest.true ∙ c.greatest.ensures) (λ k. omega (arith, c.type_inv.bytes k))

pub loop-i-init : goal.loop-i-init
loop-i-init c = looked-none _ _ _ _

pub sample-requires : goal.sample-requires
sample-requires c = room-of-each _ _ _ _ c.requires (omega arith)

pub loop-i-preserved : goal.loop-i-preserved
loop-i-preserved c = let turn = c.loop-i in looked-more _ _ _ _ turn.found c.sample.result turn.i (omega arith) c.sample.ensures c.loop-i.invariant

pub returns : goal.returns
returns c = looked-all _ _ _ _ _ _ (omega arith) c.loop-i.invariant
