pub mod MissingLemmas
pub mod RangeLemmas
pub mod RecordLemmas
pub mod VersionLemmas
pub mod WorkerLemmas
