pub mod AmountLemmas
pub mod LawLemmas
pub mod LineLemmas
pub mod PaidBookLemmas
pub mod PaidLemmas
pub mod PartLemmas
pub mod RowLemmas
pub mod SuspenseLemmas
