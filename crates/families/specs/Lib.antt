pub mod Families
pub mod Members
