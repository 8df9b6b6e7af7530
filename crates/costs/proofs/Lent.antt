-- See specs/Lent.antt.
pub mod Bounds
