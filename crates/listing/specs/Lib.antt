-- The cycles of a labelled list of blocks: what the lists hold after the first cycles, pixel by pixel, row by row, block by block.
pub mod Chains
pub mod MapAndLinks
pub mod Regions
