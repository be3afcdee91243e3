-- What each decision is handed of the records: each part is the value of its definition.
pub mod Assign
pub mod Claim
pub mod EndMembership
pub mod ImportBank
pub mod PayoutList
pub mod Register
pub mod Release
pub mod RemindRun
pub mod Report
pub mod Serves
pub mod Withdraw
