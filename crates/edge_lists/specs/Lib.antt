pub mod Occurrences
pub mod Connections
pub mod EdgePairs
pub mod EdgeWalks
pub mod EdgeNumbers
