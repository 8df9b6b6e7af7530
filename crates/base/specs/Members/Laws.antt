-- Members of a list and of two joined, and what holds of every element of these. Some are the library's, under short names. Assumes nothing.
use Rattle.std.specs.Prelude.{◌≡◌, ◌⊎◌, List, [], ◌∷◌, ◌++◌}
use Rattle.std.proofs.Common.{sym, subst, inl, inr}
use Rattle.base.specs.Members.{In, there, Every}
pub use mathlib.Core.List.Memᴰ.{append_left as in_left}
pub use mathlib.Core.List.Memᴰ.{append_right as in_right}
pub use mathlib.Core.List.Memᴰ.{cases_cons as in-cases}
pub use mathlib.Core.List.Memᴰ.{not-nil as not-in-nil}
use mathlib.Core.List.Memᴰ.{append_cases}

module _ {A : Type 0} where
  pub in_append : {a : A} (l m : List A) → In a (l ++ m) → In a l ⊎ In a m
  in_append l m i = append_cases l i

  -- one element taken out of the middle, and put back
  pub in_middle : {a : A} (l : List A) (x : A) (m : List A) → In a (l ++ (x ∷ m)) → (a ≡ x) ⊎ In a (l ++ m)
  in_middle {a} l x m i = go (in_append l (x ∷ m) i)
    where
      right : (a ≡ x) ⊎ In a m → (a ≡ x) ⊎ In a (l ++ m)
      right (inl e) = inl e
      right (inr j) = inr (in_right l j)

      go : In a l ⊎ In a (x ∷ m) → (a ≡ x) ⊎ In a (l ++ m)
      go (inl j) = inr (in_left m j)
      go (inr j) = right (in-cases j)

  pub in_more : {a : A} (l : List A) (x : A) (m : List A) → In a (l ++ m) → In a (l ++ (x ∷ m))
  in_more {a} l x m i = go (in_append l m i)
    where
      go : In a l ⊎ In a m → In a (l ++ (x ∷ m))
      go (inl j) = in_left (x ∷ m) j
      go (inr j) = in_right l (there j)

  pub every_nil : (Q : A → Type 0) → Every Q []
  every_nil Q x i = absurd (not-in-nil i)

  pub every_cons : (Q : A → Type 0) (y : A) (l : List A) → Q y → Every Q l → Every Q (y ∷ l)
  every_cons Q y l q h x i = go (in-cases i)
    where
      go : (x ≡ y) ⊎ In x l → Q x
      go (inl e) = subst Q (sym e) q
      go (inr j) = h x j

  pub every_append : (Q : A → Type 0) (l m : List A) → Every Q l → Every Q m → Every Q (l ++ m)
  every_append Q l m h g x i = go (in_append l m i)
    where
      go : In x l ⊎ In x m → Q x
      go (inl j) = h x j
      go (inr j) = g x j
