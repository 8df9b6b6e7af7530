-- See specs/Simulation.antt.
pub mod Assign
pub mod Resume
pub mod Step
pub mod Table
pub mod Units
