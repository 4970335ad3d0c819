pub mod LineVectors
pub mod Families
