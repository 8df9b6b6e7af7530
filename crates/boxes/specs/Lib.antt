-- Boxes on the air: the boxes and their events; what they promise; the proof.
pub mod Boxes
pub mod Promise
pub mod Invariant
pub mod Making
pub mod Theorem
