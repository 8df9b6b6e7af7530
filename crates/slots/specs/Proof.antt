-- Proof of demand 3 over 02's pool.
pub mod Cells
pub mod Messages
pub mod Invariant
pub mod Overwriting
pub mod Stored
pub mod Delivery
pub mod Making
pub mod Fresh
