pub mod CallerChecks
pub mod RateChecks
pub mod RateFound
pub mod Shown
