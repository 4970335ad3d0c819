pub mod Scalars
pub mod Vectors
pub mod Spans
pub mod Ranks
