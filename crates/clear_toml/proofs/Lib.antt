pub mod RateFileLemmas
pub mod WrittenRateLemmas
