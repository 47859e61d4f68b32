pub mod Access
pub mod Resident
pub mod Tallies
