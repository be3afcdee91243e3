pub mod Contents
pub mod Found
pub mod Names
