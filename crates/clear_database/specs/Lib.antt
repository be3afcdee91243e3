pub mod Later
pub mod Making
pub mod Opening
pub mod Outcomes
pub mod Still
pub use Rattle.clear_values.specs.First
