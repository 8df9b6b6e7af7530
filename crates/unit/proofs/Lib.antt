-- What the proofs of making and of the steps share.
pub mod Calls
