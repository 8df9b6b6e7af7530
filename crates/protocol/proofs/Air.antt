-- See specs/Air.antt.
pub mod Stops
pub mod Tally
pub mod Theorem
