-- The answers of writers, the causes of a refusal, and the number of a raster.
pub mod Put
pub mod Causes
pub mod Results
pub mod Answers
pub mod Rasters
