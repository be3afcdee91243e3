pub mod ConfirmLemmas
pub mod CreateLemmas
pub mod FirstLemmas
pub mod LookLemmas
pub mod MakeLemmas
pub mod MetaLemmas
pub mod OpenLemmas
pub mod VersionLemmas
