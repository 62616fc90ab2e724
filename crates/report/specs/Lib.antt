pub mod Operation
pub mod Report
pub mod ReportParts
