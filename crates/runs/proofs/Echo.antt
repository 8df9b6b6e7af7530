-- See specs/Echo.antt.
pub mod Proof
pub mod Theorem
