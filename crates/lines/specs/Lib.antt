pub mod Lines
pub mod Cells
pub mod Joins
pub mod Parts
pub mod Asks
pub mod Mild
