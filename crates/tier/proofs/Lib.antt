pub mod Options
pub mod Holds
pub mod Builds
pub mod Moves
pub mod Stacks
