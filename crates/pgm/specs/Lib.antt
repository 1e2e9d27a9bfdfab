-- Binary PGM: the causes, the picture, the reader.
pub mod Exponent
pub mod Samples
pub mod Picture
pub mod Shaped
pub mod ShapeLaws
pub mod Scans
pub mod Reading
pub mod Results
pub mod Judging
pub mod Accepted
pub mod Callers
pub mod Causes
pub mod Remarks
pub mod Examples
