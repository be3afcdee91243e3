pub mod Dated
pub mod Weighed
pub mod Changes
pub mod Start
pub mod Owing
