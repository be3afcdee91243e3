pub mod StreamLemmas
pub mod WriteLemmas
