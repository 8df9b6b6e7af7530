-- What the specs of this crate lead to: theorems and lemmas.
pub mod CodeLaws
pub mod Echo
pub mod Steps
pub mod Settle
pub mod Short
pub mod Theorem
pub mod Trusted
