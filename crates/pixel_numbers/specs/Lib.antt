-- Region numbers pixel by pixel, compared with those of a map: what is promised, the parents in the work list, one pixel joined with its
-- neighbours, all pixels joined, the comparison, and the answer.
pub mod Promise
pub mod Parents
pub mod Neighbours
pub mod Pixels
pub mod Comparing
pub mod Answer
