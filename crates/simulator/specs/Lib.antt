pub mod Simulation
pub mod Report
pub mod Inner
