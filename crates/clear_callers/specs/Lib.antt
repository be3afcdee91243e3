pub mod Callers
pub mod CallerFile
