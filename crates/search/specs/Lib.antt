pub mod Fillings
pub mod Findings
