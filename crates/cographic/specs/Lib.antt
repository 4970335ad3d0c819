pub mod CographicRows
pub mod Cycles
