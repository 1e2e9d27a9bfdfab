-- Files in block order: their text is that of the file with its samples put into rows.
pub mod Files
pub mod Examples
pub mod Putting
pub mod SameText
