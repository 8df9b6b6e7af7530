-- The pool of 02, job 4: the numbering of its cells, and the newer of two messages for one; the run over messages, the calls on bytes, demand 3; the proof;
-- how the code does it.
pub mod Slot
pub mod Newer
pub mod Run
pub mod Bytes
pub mod Calls
pub mod Demand3
pub mod Checks
pub mod Made
pub mod Settle
pub mod Placing
pub mod Code
pub mod Proof
pub mod Theorem
pub mod Replay
pub mod Cases
