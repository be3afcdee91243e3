pub mod Edited
pub mod Kept
pub mod Layouts
pub mod Parts
pub mod Plain
pub mod Refused
pub mod Stands
