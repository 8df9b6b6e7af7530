-- Bound and best: for each bound there is one best, and it is the first assignment with that total in the order tried. Of any pool, a shed's or the air.
pub mod Told
pub mod Pairs
pub mod First
