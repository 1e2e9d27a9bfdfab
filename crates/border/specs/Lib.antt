-- The walk with the border: what it asks and leaves, span by span.
pub mod BorderSpans
pub mod Walk
