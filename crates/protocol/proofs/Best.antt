-- See specs/Best.antt.
pub mod First
pub mod Pairs
pub mod Told
