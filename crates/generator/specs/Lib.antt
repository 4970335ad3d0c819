pub mod Sequence
pub mod GeneratedProblems
pub mod Coordinates
pub mod TakenLines
