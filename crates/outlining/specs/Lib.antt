-- The outlines of labelled blocks.
pub mod Outlining
