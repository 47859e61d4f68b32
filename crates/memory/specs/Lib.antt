pub mod Meaning
pub mod Refusals
pub mod Flat
pub mod FlatLaws
pub mod Calls
