pub mod Lines
pub mod Command
pub mod Rows
pub mod Ready
