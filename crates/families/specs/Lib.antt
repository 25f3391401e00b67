pub mod Drafts
pub mod Refusals
pub mod Stations
pub mod Runs
pub mod Own
pub mod Places
pub mod DraftLimits
