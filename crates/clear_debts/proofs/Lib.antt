pub mod FaultLemmas
pub mod FoundLemmas
pub mod MissingLemmas
pub mod OverdueLemmas
pub mod OwedLemmas
pub mod ReadLemmas
