pub mod ClaimTable
pub mod ListTable
pub mod StateLemmas
