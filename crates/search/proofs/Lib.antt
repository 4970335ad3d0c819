pub mod Lengths
pub mod Lists
pub mod PartsBelow
pub mod Ranges
pub mod FirstLines
pub mod Sizes
pub mod Starts
pub mod Walked
