-- The two searches, in reading order: what they give; the search; that it picks the first least (costs/specs/Least); so which answer they give; what the code goes by.
pub mod Search
pub mod Best
pub mod Picked
pub mod Laws
pub mod Steps
