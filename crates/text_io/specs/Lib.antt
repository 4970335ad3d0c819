pub mod Counts
pub mod Memory
pub mod Reading
pub mod Std
pub mod Steady
pub mod Told
