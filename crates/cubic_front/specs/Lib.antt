pub mod CubicGraphs
pub mod FeedbackVertexSets
pub mod CommonEnds
