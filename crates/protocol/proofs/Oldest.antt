-- See specs/Oldest.antt.
pub mod Rounds
pub mod Run
pub mod Turn
