-- See specs/Least.antt.
pub mod Laws
