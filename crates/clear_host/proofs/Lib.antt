pub mod OfficeLemmas
pub mod RefusalLemmas
pub mod StoreLemmas
