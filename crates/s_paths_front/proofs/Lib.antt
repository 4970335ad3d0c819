pub mod FoundPaths
pub mod Along
pub mod Counting
pub mod PathsOfSet
pub mod Setting
pub mod Sizes
pub mod TreePaths
pub mod Vectors
