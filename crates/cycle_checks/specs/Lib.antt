-- One given cycle: where a walk may begin, the walk that compares corners, and what the check of one cycle promises.
pub mod Begins
pub mod Runs
pub mod Comparing
pub mod Checked
