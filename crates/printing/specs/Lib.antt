-- The text of a picture.
pub mod Printed
pub mod Results
pub mod Printable
pub mod Orders
pub mod Deciding
pub mod Callers
pub mod Examples
