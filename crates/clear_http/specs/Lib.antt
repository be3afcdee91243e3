pub mod Ahead
pub mod Desk
pub mod Guarded
pub mod Serve
pub mod Served
