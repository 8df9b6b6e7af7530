-- What the bench and the shed print of a stored table.
pub mod Report
pub mod Agree
