pub mod BankTable
pub mod CreditTable
pub mod GreatestLemmas
pub mod LookLemmas
pub mod PieceTable
pub mod ReminderTable
pub mod RequestTable
pub mod RunTable
