pub mod BankCheckLemmas
pub mod HintLemmas
pub mod RecordLemmas
