-- A list of deliveries to a shed, whatever pool it has: what it leaves, how many of them are accepted, and what these handed over.
-- Assumes nothing.
use Rattle.std.specs.Prelude.{ℕ, ◌+◌, cond, List, [], ◌∷◌, ◌++◌, eqb}
pub mod Laws
pub mod Ending

-- the delivery of a cell
pub record Delivery (S : Type 0) : Type 0 where
  pub refusal : S → ℕ → ℕ  -- 0 where it is accepted
  pub after : S → ℕ → S  -- what it leaves
  pub bytes : S → ℕ → List ℕ  -- what stands at the cell

module _ {S : Type 0} (D : Delivery S) where
  -- 01: "gets the units, counts and pool as the one before left them"
  unfoldable pub deliver_all : S → List ℕ → S
  deliver_all s [] = s
  deliver_all s (c ∷ cs) = deliver_all (D.after s c) cs

  -- 01: "the others are accepted": how many of a list are
  unfoldable pub accepted_in : S → List ℕ → ℕ
  accepted_in s [] = 0
  accepted_in s (c ∷ cs) = cond (eqb (D.refusal s c) 0) 1 0 + accepted_in (D.after s c) cs

  -- the 64 bytes at the cell, for each of them
  unfoldable pub handed_in : S → List ℕ → List (List ℕ)
  handed_in s [] = []
  handed_in s (c ∷ cs) = cond (eqb (D.refusal s c) 0) (D.bytes s c ∷ []) [] ++ handed_in (D.after s c) cs
