pub mod Accesses
pub mod Calls
pub mod Refusals
pub mod Answers
pub mod Prices
pub mod Weighing
