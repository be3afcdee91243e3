pub mod Stops
pub mod Works
pub mod Says
pub mod Looks
pub mod Streams
