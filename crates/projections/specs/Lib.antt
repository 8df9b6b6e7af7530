-- Costs pushed forward by equivalence-preserving transformations, in reading order: the costs held; the three moves; all of them once; the costs of a
-- table; a total by its terms; what the code goes by.
pub mod Held
pub mod Moves
pub mod All
pub mod Made
pub mod Terms
pub mod Steps
