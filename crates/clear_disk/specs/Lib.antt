pub mod Opening
pub mod Seen
