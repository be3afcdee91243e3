pub mod Reasons
pub mod Asked
pub mod Opening
pub mod Made
pub mod Ends
