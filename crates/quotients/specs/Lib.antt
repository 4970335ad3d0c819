pub mod ReducedBases
pub mod Subspaces
pub mod Reductions
pub mod Meetings
pub mod Quotients
