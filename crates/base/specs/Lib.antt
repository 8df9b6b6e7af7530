-- What every layer counts with: 01's numbers, bytes as numbers, domain sizes in range, finite sums, tests of every index, members of a list, refusals, bytes put into a buffer, lists joined.
pub mod Limits
pub mod Bytes
pub mod Sums
pub mod Shape
pub mod Every
pub mod Members
pub mod Refusal
pub mod Put
pub mod Join
