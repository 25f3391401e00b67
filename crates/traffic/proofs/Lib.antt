pub mod AxleSums
pub mod HandFigures
pub mod Deciding
pub mod Taken
