pub mod Layouts
pub mod Rooms
