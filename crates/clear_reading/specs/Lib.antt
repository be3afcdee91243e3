pub mod Documents
pub mod Look
pub mod LookParts
pub mod Payout
pub mod Reader
pub mod Source
pub mod Paid
pub mod FirmHead
