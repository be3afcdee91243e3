pub mod Bounds
pub mod Ends
pub mod Imports
