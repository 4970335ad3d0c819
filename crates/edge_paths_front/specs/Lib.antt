pub mod SecondGraphs
pub mod Replies
pub mod Orders
