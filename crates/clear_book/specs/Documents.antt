-- The documents that queries are answered with.
pub mod Amounts
pub mod Lines
pub mod Payout
pub mod Reminders
pub mod Statement
pub mod Suspense
pub mod Worker
