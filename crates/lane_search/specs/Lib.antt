pub mod Samples
pub mod Readings
pub mod Gains
pub mod Reach
pub mod Places
pub mod Groups
pub mod Blocks
