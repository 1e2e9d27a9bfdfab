-- Cursors in block lists.
pub mod Cursors
