pub mod PairProblems
pub mod EndSums
pub mod ForestSets
pub mod SpareSets
pub mod PairPieces
