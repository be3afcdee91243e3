pub mod Contents
pub mod Hindrances
pub mod Offices
pub mod Paths
