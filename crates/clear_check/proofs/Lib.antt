pub mod CallerCheckLemmas
pub mod RateCheckLemmas
pub mod TextLemmas
