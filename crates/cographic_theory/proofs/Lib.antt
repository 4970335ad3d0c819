pub mod Cuts
pub mod CographicRelations
pub mod TwoElements
pub mod CographicVectors
pub mod CographicTuples
pub mod PairLines
