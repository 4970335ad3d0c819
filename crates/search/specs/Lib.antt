pub mod Found
pub mod Meetings
pub mod Notes
pub mod Walks
pub mod Walkers
pub mod Repeats
pub mod Below
pub mod Gathering
