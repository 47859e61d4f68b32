pub mod Changes
pub mod Scans
pub mod Cuts
pub mod Meanings
pub mod Exactly
pub mod FirstFaults
