pub mod Problems
pub mod LineSets
pub mod Certificates
pub mod Shown
pub mod PartLists
pub mod Independence
pub mod FirstLines
pub mod Relations
