pub mod Messages
pub mod Seated
