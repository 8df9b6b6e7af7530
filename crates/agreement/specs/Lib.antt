-- Whether shed and bench total the same, and of how many tiny tables: of all.
pub mod Agreement
pub mod All
