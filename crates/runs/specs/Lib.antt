-- Pieces joined to runs, runs cut into squares: what comes out is the quadtree. Blocks stored in lent lists.
pub mod Squares
pub mod Runs
pub mod Maximal
pub mod MergedRuns
pub mod Stored
