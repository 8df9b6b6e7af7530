-- The proof of demand 3, up to its theorem: the walk over a delivery and the units and counts, whatever the pool; then, over 01's, bytes and messages, whatever
-- was heard again; and the one invariant of a run without echoes, which making gives and each delivery keeps. The steps and the theorem are in proofs/.
pub mod Walk
pub mod Follow
pub mod Core
