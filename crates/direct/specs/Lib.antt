pub mod Lines
pub mod Direct
pub mod Mapped
pub mod DirectLaws
