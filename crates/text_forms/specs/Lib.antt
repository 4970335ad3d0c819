pub mod Reading
pub mod Places
pub mod Forms
pub mod Gives
pub mod Taken
pub mod Spelling
pub mod Causality
pub mod Writes
