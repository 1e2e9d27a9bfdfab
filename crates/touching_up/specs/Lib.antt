-- One pixel of a block list touched up: the answer, the pass over the list, what a caller knows.
pub mod Promise
pub mod Pieces
pub mod Pass
pub mod Callers
