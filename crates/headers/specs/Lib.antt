-- The header of a binary PGM: white space, numbers, the header, and what files it accepts.
pub mod Parser
pub mod Space
pub mod Number
pub mod NumberLaws
pub mod Header
pub mod File
pub mod Bytes
pub mod Layout
pub mod Refusing
pub mod ReadsSpace
pub mod Plain
pub mod Whites
pub mod Over
pub mod FileLaws
pub mod Remarks
pub mod Steps
pub mod Sequence
