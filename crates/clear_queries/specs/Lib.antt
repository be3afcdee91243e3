pub mod Inquiries
pub mod Findings
