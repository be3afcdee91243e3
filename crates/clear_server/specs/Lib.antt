pub mod Talks
pub mod Told
