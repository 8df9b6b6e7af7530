-- See specs/Streams.antt.
pub mod Retested
pub mod Laws
