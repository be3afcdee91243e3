pub mod DeskLemmas
pub mod GuardedLemmas
pub mod PlaceLemmas
pub mod ServeLemmas
pub mod ServedLemmas
