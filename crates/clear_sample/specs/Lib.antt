pub mod Memory
pub mod Samples
