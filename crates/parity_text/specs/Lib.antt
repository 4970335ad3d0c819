pub mod Texts
pub mod Files
pub mod Values
pub mod Shown
pub mod Spelled
pub mod Spells
