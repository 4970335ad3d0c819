pub mod Coordinates
pub mod GrowingProblems
