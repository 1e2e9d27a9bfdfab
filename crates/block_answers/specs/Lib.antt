-- What a writer of a block list answers and leaves.
pub mod BlockWriters
