-- One block list laid over another: the answer, the pass over both lists, what a caller knows.
pub mod Larger
pub mod Promise
pub mod Pass
pub mod Callers
