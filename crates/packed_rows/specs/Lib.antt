pub mod Carried
pub mod Packed
pub mod Shifts
pub mod Words
