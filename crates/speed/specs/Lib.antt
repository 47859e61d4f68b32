pub mod Requests
pub mod Played
pub mod Eight
pub mod Private
