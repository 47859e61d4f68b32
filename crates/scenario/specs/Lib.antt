pub mod Faults
pub mod Layouts
pub mod Changes
pub mod Scan
pub mod Steps
pub mod Reading
pub mod Texts
