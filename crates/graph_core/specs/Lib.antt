pub mod NamedGraphs
pub mod Adjacency
pub mod Gathered
pub mod LabelLists
pub mod OnlyPaths
pub mod Ways
