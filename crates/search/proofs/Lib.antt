pub mod Optimum
pub mod SameLine
pub mod Tables
pub mod WorstOfAll
