-- See specs/Settle.antt.
pub mod Laws
