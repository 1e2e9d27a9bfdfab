-- The walk along one cycle that marks its westward edges.
pub mod Walking
