pub mod Sizes
pub mod Centres
pub mod Judging
pub mod Highest
