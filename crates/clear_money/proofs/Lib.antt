pub mod BegunLemmas
pub mod CountLemmas
pub mod DateLemmas
pub mod DayTextLemmas
pub mod MonthLemmas
pub mod MonthTextLemmas
pub mod NumberLemmas
pub mod RateFacts
