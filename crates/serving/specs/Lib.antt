-- Turns at the cutter: the queue of open outlines, the state that holds it, what an opening and a turn answer.
pub mod Queue
pub mod States
pub mod Promise
pub mod Answers
pub mod Bounds
pub mod Example
