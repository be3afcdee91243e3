pub mod Firm
pub mod Behind
pub mod Allocates
pub mod Anew
pub mod Keeping
pub mod Filled
