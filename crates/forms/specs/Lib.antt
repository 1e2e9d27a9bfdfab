-- The test of cycle form.
pub mod Scan
