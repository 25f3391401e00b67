pub mod Bounds
pub mod UnderCells
pub mod Joining
pub mod Asking
pub mod Products
