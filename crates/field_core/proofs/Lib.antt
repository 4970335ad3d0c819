pub mod Loops
pub mod Zeros
pub mod Refills
pub mod Values
