pub mod GenusProblems
pub mod GrownRotations
pub mod SpanningForests
pub mod EdgeParts
