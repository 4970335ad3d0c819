pub mod Missed
pub mod NoCommon
