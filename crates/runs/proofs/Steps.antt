-- See specs/Proof.antt.
pub mod Core
pub mod Delivery
pub mod Invariant
pub mod Making
pub mod Stands
