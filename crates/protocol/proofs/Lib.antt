-- What the specs of this crate lead to: theorems and lemmas.
pub mod Air
pub mod Best
pub mod Count
pub mod Echo
pub mod Liveness
pub mod Oldest
pub mod Progress
pub mod Safety
pub mod Simulation
pub mod Slots
pub mod Theorem
