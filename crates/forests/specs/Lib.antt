-- Forests by parents; orders of their numbers with each child before its parent: the test of one, the least of all, and the loops for both.
pub mod Forest
pub mod Orders
pub mod Falling
pub mod LeastOrder
pub mod Entries
pub mod Greedy
pub mod Ready
pub mod Settling
pub mod Least
pub mod Checking
pub mod WorkList
pub mod Seen
pub mod Waiting
pub mod Counting
pub mod Arranging
pub mod Agreeing
