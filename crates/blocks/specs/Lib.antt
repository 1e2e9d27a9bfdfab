-- The number of a block list as the check works it out: the laws its passes follow.
pub mod Covering
pub mod Siblings
pub mod Checking
