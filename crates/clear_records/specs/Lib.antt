pub mod Earned
pub mod Found
pub mod Records
pub mod Told
