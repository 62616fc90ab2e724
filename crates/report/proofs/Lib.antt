pub mod Forms
mod ReportPieces
