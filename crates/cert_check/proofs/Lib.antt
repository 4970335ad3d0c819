pub mod Counting
pub mod Lengths
pub mod Halves
pub mod Judged
pub mod OneVerdict
