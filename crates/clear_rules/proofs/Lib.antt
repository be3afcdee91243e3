pub mod CountsLemmas
pub mod FilterMapLemmas
pub mod ImportBankLemmas
pub mod RemindLemmas
pub mod ReportLemmas
pub mod ReleaseLemmas
