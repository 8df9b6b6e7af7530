-- See specs/Echo.antt.
pub mod Behind
pub mod Packets
pub mod Run
pub mod Theorem
