pub mod BehindLemmas
pub mod CountsLemmas
pub mod JudgeLemmas
pub mod ListLemmas
pub mod StatementLemmas
