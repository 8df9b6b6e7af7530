-- See specs/Count.antt.
pub mod Paid
pub mod Prefixes
pub mod Stops
pub mod Tally
pub mod Width
