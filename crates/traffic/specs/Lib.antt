pub mod Records
pub mod Sets
pub mod Figures
