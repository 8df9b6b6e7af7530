-- What the proofs of the units and counts share.
pub mod Lent
