pub mod MarkLists
pub mod CyclePaths
pub mod CographicLaw
