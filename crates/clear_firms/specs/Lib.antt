pub mod Amounts
pub mod Counts
pub mod Shown
