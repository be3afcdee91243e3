pub mod CallerLemmas
pub mod CallerFileLemmas
