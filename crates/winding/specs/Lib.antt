-- Winding numbers. Sums over numbers and over lists.
pub mod Sums
pub mod Tallies
-- What is counted: edges, those that cross the ray east of a place, and the area as a sum of winding numbers over the pixels.
pub mod Edges
pub mod Crossings
pub mod Pixels
-- How the winding number changes from place to place: for any closed walk, for edges of a region, down a column.
pub mod Changes
pub mod Neighbours
pub mod Columns
-- The cycles of an image: one winding number all over the region, that around its least pixel, the signs of the areas.
pub mod Inside
pub mod LeastPixels
pub mod Signs
-- All edges of a region at once; sums of areas, and that 32 bits hold them.
pub mod AllEdges
pub mod Totals
pub mod RegionAreas
pub mod Sizes
