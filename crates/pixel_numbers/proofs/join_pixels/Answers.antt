-- Each pixel in turn is joined with its neighbours.
use Prim.Native.Nat.{◌^◌, ◌<◌}
use native.Mathlib.Omega.{arith}
use Rattle.pixel_numbers.specs.Parents.{whole_is, part_inside}
use Rattle.pixel_numbers.specs.Pixels.{begin, pixel_next, again, finish}
use Rattle.pixel_numbers.proofs.join_pixels.Goals as goal

pub overflow_cast-end : goal.overflow_cast-end
overflow_cast-end c = let g = c.requires.given in omega (arith, (part_inside g.small c.pixels-end.ensures g.room).0)

pub loop-c-init : goal.loop-c-init
loop-c-init c = begin c.requires

pub join_pixel-requires : goal.join_pixel-requires
join_pixel-requires c =
    let inside : c.loop-c.c < 4 ^ c.args.n = omega (arith, whole_is c.requires.given.small c.pixels-end.ensures, c.loop-c-test.true) in
    pixel_next c.requires c.loop-c.invariant inside

pub loop-c-preserved : goal.loop-c-preserved
loop-c-preserved c =
    let inside : c.loop-c.c < 4 ^ c.args.n = omega (arith, whole_is c.requires.given.small c.pixels-end.ensures, c.loop-c-test.true) in
    again c.requires c.loop-c.invariant inside c.join_pixel.ensures

pub returns : goal.returns
returns c =
    let g = c.requires in
    finish g c.loop-c.invariant (omega (arith, whole_is g.given.small c.pixels-end.ensures, c.loop-c-test.false))
