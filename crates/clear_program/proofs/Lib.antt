pub mod ReasonLemmas
pub mod StatusLemmas
pub mod EndLemmas
pub mod LookLemmas
