pub mod Written
pub mod Exactly
pub mod FirstFault
