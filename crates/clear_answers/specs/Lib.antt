pub mod Said
pub mod Answer
