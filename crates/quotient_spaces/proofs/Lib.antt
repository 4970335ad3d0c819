pub mod Removal
pub mod Pivots
pub mod Projections
pub mod ProjectionLaws
