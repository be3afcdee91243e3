pub mod Bytes
pub mod Calendar
pub mod Limits
pub mod Numbers
pub mod Options
pub mod Rates
pub mod Results
pub mod Texts
