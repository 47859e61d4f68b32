pub mod Keywords
pub mod Lines
