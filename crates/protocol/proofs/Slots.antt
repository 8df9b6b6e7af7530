-- See specs/Slots.antt.
pub mod Cases
pub mod Order
pub mod Run
pub mod Sends
