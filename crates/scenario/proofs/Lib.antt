pub mod Anywhere
pub mod Calls
pub mod Sofar
