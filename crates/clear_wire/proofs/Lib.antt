pub mod HeadLemmas
pub mod KnownLemmas
pub mod LinesLemmas
pub mod StreamLemmas
pub mod NextLemmas
pub mod CutLemmas
