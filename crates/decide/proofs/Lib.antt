-- What the proofs of the deciding functions share.
pub mod Orders
pub mod Lent
pub mod Later
pub mod Trying
pub mod Rules
pub mod Ranges
pub mod Ways
