pub mod CubicGraphs
pub mod FoundWays
pub mod FeedbackVertices
pub mod VertexMarks
pub mod FeedbackOfParts
pub mod SetOfParts
pub mod SetsAndVertices
