-- All that the protocol's proof knows of an instance: how many units and values there are, three functions of a prefix, and
-- the laws that tie them together. A forbidden cost counts as NONE (Cost.antt: `as_number`). A prefix (01: "beginning") is the list of its
-- values, the LAST unit's first: `v ∷ b` is the prefix b followed by the value v of unit `length b`. Units count from 0.
-- Assumes nothing.
use Rattle.std.specs.Prelude.{◌≡◌, ℕ, zero, suc, ◌+◌, ◌-◌, ◌<◌, ◌≤◌, List, [], ◌∷◌, length}
use Rattle.std.proofs.Common.{sym, subst, arith}
use Rattle.base.specs.Limits.{NONE}
use Rattle.base.specs.Sums.{sum_from}

-- ---- the problem
pub record Problem : Type 0 where
  pub n : ℕ  -- how many units
  pub size : ℕ → ℕ  -- unit k's domain size
  pub cost : List ℕ → ℕ  -- the cost of a prefix
  pub lookahead : List ℕ → ℕ  -- that cost and h of the last value
  pub estimate : ℕ → List ℕ → ℕ  -- unit j's estimate for a prefix

module _ (P : Problem) where
  -- each value is one of its unit's
  abbrev pub InDomains : List ℕ → Type 0
  InDomains [] = Unit {0}
  InDomains (v ∷ b) = (1 ≤ v) × (v ≤ P.size (length b)) × InDomains b

  -- a full assignment, 01: "full lotting"; 02: "A lotting with a barred pair isn't a lotting."
  abbrev pub Full : List ℕ → Type 0
  Full l = (length l ≡ P.n) × InDomains l × (P.cost l < NONE)

  -- every permitted assignment that extends b by r more units costs at least B
  abbrev pub ClosedBy : ℕ → List ℕ → ℕ → Type 0
  ClosedBy zero b B = P.cost b < NONE → B ≤ P.cost b
  ClosedBy (suc r) b B = (v : ℕ) → 1 ≤ v → v ≤ P.size (length b) → ClosedBy r (v ∷ b) B

  -- every full assignment that extends b costs at least B
  abbrev pub Closed : List ℕ → ℕ → Type 0
  Closed b B = ClosedBy (P.n - length b) b B

-- What the protocol asks of the costs. That a full prefix's cost is its total, that a prefix is closed where each value after it is, and that
-- a closed prefix is closed for less (L4, L5, L6 of the proof) need no law: they follow from what `Closed` says, as shown below.
pub record Laws (P : Problem) : Type 0 where
  pub size_le_16 : (k : ℕ) → P.size k ≤ 16
  pub cost_le_lookahead : (b : List ℕ) → P.lookahead b < NONE → P.cost b ≤ P.lookahead b
  -- L1
  pub closed_by_lookahead : (b : List ℕ) (B : ℕ) → length b ≤ P.n → B ≤ P.lookahead b → Closed P b B
  -- L3
  pub closed_by_cost : (b : List ℕ) (B : ℕ) → length b ≤ P.n → B ≤ P.cost b → Closed P b B
  -- L2
  pub closed_by_estimates : (b : List ℕ) (B : ℕ) → length b ≤ P.n → B ≤ P.cost b + sum_from (λ j. P.estimate j b) (length b) (P.n - length b) → Closed P b B

-- ---- what follows from the meaning of `Closed`
module _ (P : Problem) where
  closed_by_mono : (r : ℕ) (b : List ℕ) {B C : ℕ} → C ≤ B → ClosedBy P r b B → ClosedBy P r b C
  closed_by_mono zero b h p = λ few. omega (arith, p few)
  closed_by_mono (suc r) b h p = λ v lo hi. closed_by_mono r (v ∷ b) h (p v lo hi)

  -- a lower bound is reached too
  pub closed_mono : (b : List ℕ) (B C : ℕ) → C ≤ B → Closed P b B → Closed P b C
  closed_mono b B C h p = closed_by_mono (P.n - length b) b h p

  -- a prefix is closed if each value after it is
  pub closed_by_values : (b : List ℕ) (B : ℕ) → length b < P.n → ((v : ℕ) → 1 ≤ v → v ≤ P.size (length b) → Closed P (v ∷ b) B) → Closed P b B
  closed_by_values b B h f = subst (λ r. ClosedBy P r b B) (sym e) (λ v lo hi. f v lo hi)
    where
      e : P.n - length b ≡ suc (P.n - suc (length b))
      e = omega arith

  -- a full assignment is closed by its own cost
  pub closed_full : (b : List ℕ) → length b ≡ P.n → Closed P b (P.cost b)
  closed_full b h = subst (λ r. ClosedBy P r b (P.cost b)) (sym e) (λ few. omega arith)
    where
      e : P.n - length b ≡ 0
      e = omega arith

  -- each value after a closed prefix is closed
  pub closed-next : (b : List ℕ) (v B : ℕ) → length b < P.n → 1 ≤ v → v ≤ P.size (length b) → Closed P b B → Closed P (v ∷ b) B
  closed-next b v B h lo hi p = subst (λ r. ClosedBy P r b B) e p v lo hi
    where
      e : P.n - length b ≡ suc (P.n - suc (length b))
      e = omega arith

  closed_from_empty : (B : ℕ) → Closed P [] B → (b : List ℕ) → length b ≤ P.n → InDomains P b → Closed P b B
  closed_from_empty B p [] l d = p
  closed_from_empty B p (v ∷ b) l d = closed-next b v B l d.0 d.1 (closed_from_empty B p b (omega arith) d.2)

  -- once the empty prefix is closed, no full assignment costs less
  pub closed-least : (B : ℕ) → Closed P [] B → (l : List ℕ) → Full P l → B ≤ P.cost l
  closed-least B p l f = subst (λ r. ClosedBy P r l B) e (closed_from_empty B p l (omega (arith, f.0)) f.1) f.2
    where
      e : P.n - length l ≡ 0
      e = omega (arith, f.0)
