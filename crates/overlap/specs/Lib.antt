pub mod Pairs
pub mod Points
pub mod PointedOverlaps
pub mod Candidates
