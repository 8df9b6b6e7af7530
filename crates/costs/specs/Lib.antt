-- Unary costs, pair costs and what is worked out from them, in reading order.
pub mod Cost
pub mod Instance
pub mod Bounds
pub mod Order
pub mod Least
pub mod Lent
pub mod Knowing
pub mod Rows
pub mod Gathered
pub mod Gather
pub mod StreamCost
pub mod Streamed
pub mod Problem
pub mod Laws
pub mod Converted
