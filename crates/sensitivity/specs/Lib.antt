-- Sensitivity, in reading order: the call; how far two tables of one shape lie apart; the least total then lies between the ends; of
-- streams; what the code goes by.
pub mod Ends
pub mod Changes
pub mod Laws
pub mod Streams
pub mod Steps
