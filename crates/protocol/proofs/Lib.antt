pub mod Affording
