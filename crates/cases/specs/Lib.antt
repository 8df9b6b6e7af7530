-- Document 01's small sheds and the table of its starred cases.
pub mod Sheds
pub mod Cases
