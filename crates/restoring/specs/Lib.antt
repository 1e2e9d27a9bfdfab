-- What giving back the block list of given outlines promises.
pub mod Promise
pub mod Lengths
-- The check: the ends, the passes one after the other.
pub mod Ends
pub mod Judging
-- The block list given back, and from there the promise.
pub mod Restored
-- Where a caller stands.
pub mod Callers
