pub mod Counts
pub mod Decisions
pub mod Views
