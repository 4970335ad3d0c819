pub mod Statements
pub mod Spells
pub mod Texts
pub mod LinesLeft
pub mod Spelled
