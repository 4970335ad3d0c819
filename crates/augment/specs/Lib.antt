pub mod FirstSets
pub mod Steps
pub mod Divided
