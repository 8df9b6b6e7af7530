-- Costs from readings, in reading order.
pub mod Readings
pub mod Pieces
pub mod Checks
pub mod Laws
pub mod Table
pub mod Made
