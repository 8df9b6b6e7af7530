-- See specs/Safety.antt.
pub mod Assign
pub mod Logs
pub mod Network
pub mod Run
pub mod Step
