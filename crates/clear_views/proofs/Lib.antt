pub mod ClaimLemmas
pub mod FirmLemmas
pub mod ImportLemmas
pub mod RateLemmas
pub mod ReleaseLemmas
pub mod StillLemmas
pub mod ViewLemmas
