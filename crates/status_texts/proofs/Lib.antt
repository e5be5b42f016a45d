pub mod ReportFacts
pub mod Texts
