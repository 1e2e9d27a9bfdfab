-- The map filled block by block.
pub mod Filling
