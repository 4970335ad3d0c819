pub mod RotationSystems
pub mod DartPlaces
pub mod InsertedEdges
pub mod PlacedDarts
pub mod Traces
pub mod GrownTrees
pub mod TwoFaces
