-- The ways between rasters and block lists, one after the other.
pub mod RoundTrip
