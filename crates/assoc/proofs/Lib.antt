pub mod Calls
pub mod SetAges
