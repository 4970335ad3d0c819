pub mod Carries
mod Chunks
mod Elements
mod Shifts
pub mod Writes
