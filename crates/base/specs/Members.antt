-- Membership in a list, and what holds of every element. Membership is the library's `Memᴰ`, a place in the list and not merely its
-- existence, under short names. Assumes nothing.
use Rattle.std.specs.Prelude.{List}
pub use mathlib.Core.List.Memᴰ.{head as here}
pub use mathlib.Core.List.Memᴰ.{tail as there}
pub use mathlib.Core.List.{Memᴰ as In}
pub mod Laws

-- what holds of every element: a function, so that it is used by applying it
abbrev pub Every : {A : Type 0} → (A → Type 0) → List A → Type 0
Every {A} Q l = (x : A) → In x l → Q x
