-- What the specs of this crate lead to: theorems and lemmas.
pub mod LeastOf
pub mod Laws
pub mod Lent
pub mod Least
