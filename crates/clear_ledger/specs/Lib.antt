pub mod From
pub mod Kept
pub mod Shown
