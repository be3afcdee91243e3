pub mod ChargeTable
pub mod CountsTable
pub mod EmployerTable
pub mod RateTable
pub mod ReportTable
pub mod WageTable
