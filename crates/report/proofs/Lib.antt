pub mod Rooms
pub mod Rows
pub mod Reading
pub mod Readings
