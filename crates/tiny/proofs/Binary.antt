-- See specs/Binary.antt.
pub mod Laws
