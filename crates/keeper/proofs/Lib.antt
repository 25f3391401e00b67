pub mod Steps
pub mod Scales
pub mod Signs
