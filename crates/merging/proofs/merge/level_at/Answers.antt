-- A block grows while the squares beside it have its colour.
use mathlib.Core.Path.{◌≡◌, ◌∙◌, refl}
use native.Mathlib.Omega.{arith}
use Rattle.quadtree.specs.Raster.{place}
use Rattle.merging.specs.Growth.{code_placed, place_read, place_low, growth_none, growth_fits, growth_more, growth_stops, growth_full}
use Rattle.merging.proofs.merge.level_at.Goals as goal

pub offset_bounds-raster-at : goal.offset_bounds-raster-at
offset_bounds-raster-at c =
    let placed : c.place-at.result ≡ place c.args.n c.args.c = code_placed c.requires.0 c.requires.1 c.place-at.ensures in
    omega (arith, place_low c.requires.0 c.requires.1 placed)

pub bounds-raster-at : goal.bounds-raster-at
bounds-raster-at c =
    let placed : c.place-at.result ≡ place c.args.n c.args.c = code_placed c.requires.0 c.requires.1 c.place-at.ensures in
    place_read c.requires.0 c.requires.1 placed

pub loop-l-init : goal.loop-l-init
loop-l-init c =
    let placed : c.place-at.result ≡ place c.args.n c.args.c = code_placed c.requires.0 c.requires.1 c.place-at.ensures in
    growth_none c.requires.0 c.requires.1 c.top_level-top.ensures c.side-w.ensures placed refl

pub others_alike-requires : goal.others_alike-requires
others_alike-requires c = growth_fits c.requires.0 c.requires.1 c.loop-l.invariant c.loop-l-test.true c.side.ensures

pub returns-then-not-others_alike : goal.returns-then-not-others_alike
returns-then-not-others_alike c =
    growth_stops c.requires.0 c.requires.1 c.loop-l.invariant c.loop-l-test.true c.side.ensures
    c.others_alike.ensures c.if-not-others_alike.true

pub loop-l-preserved : goal.loop-l-preserved
loop-l-preserved c =
    growth_more c.requires.0 c.requires.1 c.loop-l.invariant c.loop-l-test.true c.side.ensures
    c.others_alike.ensures c.if-not-others_alike.false

pub returns : goal.returns
returns c =
    let all : c.top_level-top.result ≡ c.loop-l.l = omega arith in
    all ∙ growth_full c.requires.0 c.requires.1 c.loop-l.invariant c.loop-l-test.false
