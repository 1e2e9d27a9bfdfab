-- `join_pixel` meets its contract: both neighbours of the pixel are joined, north first; the map stays, and with it every colour.
use Rattle.pixel_numbers.specs.Neighbours.{own_pixel, north-next, west-next, pixel_joined}
use Rattle.pixel_numbers.proofs.join_pixel.Goals as goal

pub colour_at-own-requires : goal.colour_at-own-requires
colour_at-own-requires c = own_pixel c.requires c.column8-x.ensures c.row8-y.ensures

pub join_alike-requires : goal.join_alike-requires
join_alike-requires c = north-next c.requires c.column8-x.ensures c.row8-y.ensures c.colour_at-own.ensures c.saturating_sub.ensures

pub join_alike-requires-2 : goal.join_alike-requires-2
join_alike-requires-2 c =
    west-next c.requires c.column8-x.ensures c.row8-y.ensures c.colour_at-own.ensures c.saturating_sub.ensures c.join_alike.ensures
    c.saturating_sub-2.ensures

pub returns : goal.returns
returns c =
    pixel_joined c.requires c.column8-x.ensures c.row8-y.ensures c.colour_at-own.ensures c.saturating_sub.ensures c.join_alike.ensures
    c.saturating_sub-2.ensures c.join_alike-2.ensures
