-- The four entries stand at the places of the four pixels, and each has its number's colour.
use Prim.Native.Nat.{◌+◌}
use native.Mathlib.Omega.{arith}
use Rattle.map_blocks.specs.Painting.{FourAt, four_at, has_colour, four_known}
use Rattle.map_blocks.proofs.four_colours.Goals as goal

pub offset_bounds-map-at : goal.offset_bounds-map-at
offset_bounds-map-at c =
    let places : FourAt c.requires c.side-w.ensures c.place-at.ensures = four_at c.requires c.side-w.ensures c.place-at.ensures in
    omega (arith, places.low)

pub bounds-map-at : goal.bounds-map-at
bounds-map-at c =
    let places : FourAt c.requires c.side-w.ensures c.place-at.ensures = four_at c.requires c.side-w.ensures c.place-at.ensures in
    omega (arith, places.in_map)

pub colour_of-nw-requires : goal.colour_of-nw-requires
colour_of-nw-requires c =
    let places : FourAt c.requires c.side-w.ensures c.place-at.ensures = four_at c.requires c.side-w.ensures c.place-at.ensures in
    has_colour c.requires c.side-w.ensures c.place-at.ensures (c.args.c + 0) places.nw

pub overflow_add-at : goal.overflow_add-at
overflow_add-at c =
    let places : FourAt c.requires c.side-w.ensures c.place-at.ensures = four_at c.requires c.side-w.ensures c.place-at.ensures in
    omega (arith, places.low)

pub offset_bounds-map-at-2 : goal.offset_bounds-map-at-2
offset_bounds-map-at-2 c =
    let places : FourAt c.requires c.side-w.ensures c.place-at.ensures = four_at c.requires c.side-w.ensures c.place-at.ensures in
    omega (arith, places.low)

pub bounds-map-at-2 : goal.bounds-map-at-2
bounds-map-at-2 c =
    let places : FourAt c.requires c.side-w.ensures c.place-at.ensures = four_at c.requires c.side-w.ensures c.place-at.ensures in
    omega (arith, places.in_map)

pub colour_of-ne-requires : goal.colour_of-ne-requires
colour_of-ne-requires c =
    let places : FourAt c.requires c.side-w.ensures c.place-at.ensures = four_at c.requires c.side-w.ensures c.place-at.ensures in
    has_colour c.requires c.side-w.ensures c.place-at.ensures (c.args.c + 1) places.ne

pub overflow_add-at-2 : goal.overflow_add-at-2
overflow_add-at-2 c =
    let places : FourAt c.requires c.side-w.ensures c.place-at.ensures = four_at c.requires c.side-w.ensures c.place-at.ensures in
    omega (arith, places.low)

pub offset_bounds-map-at-3 : goal.offset_bounds-map-at-3
offset_bounds-map-at-3 c =
    let places : FourAt c.requires c.side-w.ensures c.place-at.ensures = four_at c.requires c.side-w.ensures c.place-at.ensures in
    omega (arith, places.low)

pub bounds-map-at-3 : goal.bounds-map-at-3
bounds-map-at-3 c =
    let places : FourAt c.requires c.side-w.ensures c.place-at.ensures = four_at c.requires c.side-w.ensures c.place-at.ensures in
    omega (arith, places.in_map)

pub colour_of-sw-requires : goal.colour_of-sw-requires
colour_of-sw-requires c =
    let places : FourAt c.requires c.side-w.ensures c.place-at.ensures = four_at c.requires c.side-w.ensures c.place-at.ensures in
    has_colour c.requires c.side-w.ensures c.place-at.ensures (c.args.c + 2) places.sw

pub overflow_add-at-3 : goal.overflow_add-at-3
overflow_add-at-3 c =
    let places : FourAt c.requires c.side-w.ensures c.place-at.ensures = four_at c.requires c.side-w.ensures c.place-at.ensures in
    omega (arith, places.low)

pub overflow_add-at-4 : goal.overflow_add-at-4
overflow_add-at-4 c =
    let places : FourAt c.requires c.side-w.ensures c.place-at.ensures = four_at c.requires c.side-w.ensures c.place-at.ensures in
    omega (arith, places.low)

pub offset_bounds-map-at-4 : goal.offset_bounds-map-at-4
offset_bounds-map-at-4 c =
    let places : FourAt c.requires c.side-w.ensures c.place-at.ensures = four_at c.requires c.side-w.ensures c.place-at.ensures in
    omega (arith, places.low)

pub bounds-map-at-4 : goal.bounds-map-at-4
bounds-map-at-4 c =
    let places : FourAt c.requires c.side-w.ensures c.place-at.ensures = four_at c.requires c.side-w.ensures c.place-at.ensures in
    omega (arith, places.in_map)

pub colour_of-se-requires : goal.colour_of-se-requires
colour_of-se-requires c =
    let places : FourAt c.requires c.side-w.ensures c.place-at.ensures = four_at c.requires c.side-w.ensures c.place-at.ensures in
    has_colour c.requires c.side-w.ensures c.place-at.ensures (c.args.c + 3) places.se

pub returns : goal.returns
returns c =
    four_known c.requires c.side-w.ensures c.place-at.ensures c.colour_of-nw.ensures c.colour_of-ne.ensures c.colour_of-sw.ensures
    c.colour_of-se.ensures
