pub mod CrashLemmas
pub mod LeftLemmas
pub mod SeenLemmas
