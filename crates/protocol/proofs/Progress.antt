-- See specs/Progress.antt.
pub mod Asked
pub mod Dues
pub mod Light
pub mod Run
