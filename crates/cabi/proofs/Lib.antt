-- What the specs of this crate lead to: theorems and lemmas.
pub mod ComesBack
