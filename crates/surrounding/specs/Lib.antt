-- Which regions surround which. The definition, paths, and what two regions that share a side have in common.
pub mod Surrounds
pub mod Paths
pub mod Sharing
-- Winding numbers of cycles over diagonal steps and at the image's edge.
pub mod Diagonals
pub mod Rows
pub mod ImageEdge
-- The region north of a region's least pixel: when it surrounds, and when it does not.
pub mod SouthSides
pub mod NorthOfLeast
pub mod Surrounded
pub mod LeftPaths
pub mod Escaping
-- The parent of a region, the ancestors, orders from the inside out; the first cycles as a walk along them meets them.
pub mod Parents
pub mod Ancestors
pub mod CuttingOrders
pub mod FirstCycles
pub mod Figures
