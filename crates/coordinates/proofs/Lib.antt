pub mod Replacements
pub mod Pivots
pub mod Swaps
pub mod Carries
pub mod Units
pub mod Tails
pub mod IndependentTails
pub mod Coordinates
