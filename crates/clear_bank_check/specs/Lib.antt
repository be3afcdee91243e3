pub mod BankChecks
pub mod BankFound
pub mod Hints
