-- Outlines that are given: the definition, the only image that can have them, and that 18 is answered exactly where none has them.
pub mod Given
pub mod Candidate
pub mod Complete
pub mod Judged
pub mod Counts
pub mod Own
-- What a check in passes asks: the lists agree, the numbers are region numbers, the cycles are the listing.
pub mod Agreeing
pub mod Starts
pub mod Checked
pub mod Needed
-- The cycles checked one after the other.
pub mod CycleByCycle
