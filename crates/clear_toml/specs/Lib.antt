pub mod RateFile
pub mod WrittenRate
