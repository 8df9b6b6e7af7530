-- One unit, in reading order: its state, what it does, what it sends, and the two calls; what the deciding code asks of its arguments; many units.
pub mod State
pub mod Step
pub mod Tests
pub mod Send
pub mod Laying
pub mod Calls
pub mod Trusted
pub mod Way
pub mod Ready
pub mod Units
pub mod Laws
