-- What the tracing promises.
pub mod Tracing
pub mod Accepting
pub mod Results
