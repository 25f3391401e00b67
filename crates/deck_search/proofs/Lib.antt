pub mod Six
pub mod Starts
pub mod Tries
pub mod Sizes
pub mod Filling
pub mod Legal
