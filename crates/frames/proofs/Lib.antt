pub mod Eliminations
pub mod Walks
pub mod Steps
pub mod Arounds
pub mod Writes
pub mod Brings
pub mod Parts
pub mod Carries
