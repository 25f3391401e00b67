pub mod Asked
pub mod Finding
pub mod Between
pub mod Climbing
pub mod Kept
