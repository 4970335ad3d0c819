pub mod PathsUp
