pub mod Hits
pub mod Tallies
