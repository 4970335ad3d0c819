pub mod ListedPairs
pub mod PairLines
pub mod Spelled
