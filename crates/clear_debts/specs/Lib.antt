pub mod Overdue
pub mod Owing
pub mod Reads
