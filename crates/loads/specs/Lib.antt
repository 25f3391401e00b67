pub mod Classes
pub mod Loads
pub mod Decks
pub mod Sums
pub mod Widths
pub mod Shares
