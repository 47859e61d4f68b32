pub mod Number
pub mod Messages
