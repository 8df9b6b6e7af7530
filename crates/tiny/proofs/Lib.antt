-- What the specs of this crate lead to: theorems and lemmas.
pub mod Binary
pub mod Once
pub mod Steps
