mod Entries
pub mod Gathered
mod Marks
mod TriangleLists
mod PairLists
mod LabelLists
mod GreedyForests
mod Searches
