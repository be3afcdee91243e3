pub mod Columns
pub mod Keys
pub mod Reading
