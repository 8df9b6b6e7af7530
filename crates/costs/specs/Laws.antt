-- The problem of an instance, that its bounds are bounds (L1 to L6 of the protocol's proof), and the limit of its totals.
-- In order: `Sound`, what holds of the instance of an accepted stream; the functions of a prefix, last unit first; the
-- laws; the limit. How these functions are specs/Bounds' is in Laws/Prefix. The laws go by one fact, `bound`: the cost so far
-- and all estimates bound every full assignment, as one value more counts each pair of unassigned units once. It is shown of costs, in
-- their order (Cost/Laws): a bound that is forbidden leaves no permitted assignment. The problem has them as numbers.
-- The laws themselves are in proofs/Laws.antt. Assumes nothing.
use Rattle.std.specs.Prelude.{◌≡◌, ℕ, zero, suc, ◌+◌, ◌-◌, ◌*◌, ◌<◌, ◌≤◌, ◌≢◌, List, [], ◌∷◌, length, Some, None}
use Rattle.std.proofs.Common.{sym, ap, ◌∙◌, subst, arith, mul-le-mul}
use Rattle.base.specs.Limits.{NONE, pair_limit, unary_limit, total_limit, prefix_limit}
use Rattle.costs.specs.Cost.{Cost, ◌⊕◌, sum_from, least, as_number}
use Rattle.costs.specs.Cost.Laws.{add_assoc, ◌⊑◌, le_refl, le_trans, add_mono, add_more, AtMost, most_add, most_mono, number_most}
use Rattle.costs.specs.Instance.{Instance}
use Rattle.costs.specs.Problem.{Problem}
pub mod Prefix
pub mod Stream
pub mod Tried

-- ---- an instance as accepted

pub record Sound (I : Instance) : Type 0 where
  pub n1 : 1 ≤ I.n
  pub n16 : I.n ≤ 16
  pub dom1 : (k : ℕ) → k < I.n → 1 ≤ I.dom k
  pub dom16 : (k : ℕ) → I.dom k ≤ 16
  pub unary_small : (k v : ℕ) → I.unary k v ≤ unary_limit
  pub small : (i u j v : ℕ) → AtMost pair_limit (I.cost i u j v)

-- ---- functions of a prefix

module _ (I : Instance) where
  -- the cost of unit j's value v, alone and with the values of the prefix b
  abbrev pub against : ℕ → ℕ → List ℕ → Cost
  against j v [] = Some (I.unary j v)
  against j v (u ∷ b) = I.cost (length b) u j v ⊕ against j v b

  -- the sum over the values of a prefix and the pairs inside it
  abbrev pub cost_of : List ℕ → Cost
  cost_of [] = Some 0
  cost_of (v ∷ b) = cost_of b ⊕ against (length b) v b

  -- h of unit i's value u
  abbrev pub h_of : ℕ → ℕ → Cost
  h_of i u = sum_from (λ j. least (λ v. I.cost i u j v) (I.dom j)) (suc i) (I.n - suc i)

  -- the cost of a prefix and h of its last value
  abbrev pub lookahead_of : List ℕ → Cost
  lookahead_of [] = Some 0
  lookahead_of (v ∷ b) = cost_of (v ∷ b) ⊕ h_of (length b) v

  -- unit j's estimate for a prefix
  abbrev pub estimate_of : ℕ → List ℕ → Cost
  estimate_of j b = least (λ v. against j v b ⊕ h_of j v) (I.dom j)

  -- as numbers: what is forbidden counts as NONE
  abbrev pub problem_of : Problem
  problem_of = record { n = I.n; size = I.dom; cost = λ b. as_number (cost_of b); lookahead = λ b. as_number (lookahead_of b); estimate = λ j b. as_number (estimate_of j b) }

-- ---- the laws

-- a value's costs a and h, e at most both; the estimates s without it and s' with it
pub one_more : (c a e h s s' : Cost) → e ⊑ a ⊕ h → h ⊕ s ⊑ s' → c ⊕ (e ⊕ s) ⊑ c ⊕ a ⊕ s'
one_more c a e h s s' p q =
    let spread : c ⊕ (a ⊕ h ⊕ s) ≡ c ⊕ a ⊕ (h ⊕ s) = ap (λ (x : Cost). c ⊕ x) (add_assoc a h s) ∙ sym (add_assoc c a (h ⊕ s)) in
    le_trans (c ⊕ (e ⊕ s)) (c ⊕ a ⊕ (h ⊕ s)) (c ⊕ a ⊕ s')
    (subst (λ (x : Cost). c ⊕ (e ⊕ s) ⊑ x) spread (add_mono c (e ⊕ s) c (a ⊕ h ⊕ s) (le_refl c) (add_mono e s (a ⊕ h) s p (le_refl s))))
    (add_mono (c ⊕ a) (h ⊕ s) (c ⊕ a) s' (le_refl (c ⊕ a)) q)

module _ (I : Instance) where
  pub cost_le_lookahead : (b : List ℕ) → cost_of I b ⊑ lookahead_of I b
  cost_le_lookahead [] = omega arith
  cost_le_lookahead (v ∷ b) = add_more (cost_of I (v ∷ b)) (h_of I (length b) v)

-- ---- the limit of a total, 02, job 7: "The limit on bounds and totals (not estimates) becomes 8,160,000"

-- one unit more has its unary cost and k more pairs
pub limit_next : (k : ℕ) → prefix_limit k + (unary_limit + pair_limit * k) ≤ prefix_limit (suc k)
limit_next zero = omega arith
limit_next (suc k) =
    let e : suc (suc k) - 1 ≡ suc k = omega arith in
    let q : suc k - 1 ≡ k = omega arith in
    rw (e, q) (omega arith)

pub limit_total : (k : ℕ) → k ≤ 16 → prefix_limit k ≤ total_limit
limit_total k h = let q : k - 1 ≤ 15 = omega arith in omega (arith, mul-le-mul h q)

module _ (I : Instance) (s : Sound I) where
  pub against_limit : (j v : ℕ) (b : List ℕ) → AtMost (unary_limit + pair_limit * length b) (against I j v b)
  against_limit j v [] = omega (arith, s.unary_small j v)
  against_limit j v (u ∷ b) =
      most_mono (pair_limit + (unary_limit + pair_limit * length b)) (unary_limit + pair_limit * suc (length b)) (against I j v (u ∷ b)) (omega arith)
      (most_add pair_limit (unary_limit + pair_limit * length b) (I.cost (length b) u j v) (against I j v b) (s.small (length b) u j v) (against_limit j v b))

  cost_limit : (b : List ℕ) → AtMost (prefix_limit (length b)) (cost_of I b)
  cost_limit [] = omega arith
  cost_limit (v ∷ b) =
      most_mono (prefix_limit (length b) + (unary_limit + pair_limit * length b)) (prefix_limit (suc (length b))) (cost_of I (v ∷ b)) (limit_next (length b))
      (most_add (prefix_limit (length b)) (unary_limit + pair_limit * length b) (cost_of I b) (against I (length b) v b) (cost_limit b) (against_limit (length b) v b))

  -- of a full assignment
  pub full_limit : (b : List ℕ) → length b ≤ I.n → AtMost total_limit (cost_of I b)
  full_limit b l = most_mono (prefix_limit (length b)) total_limit (cost_of I b) (limit_total (length b) (omega (arith, s.n16))) (cost_limit b)

  -- so a permitted prefix costs a number below NONE
  pub permitted_below : (b : List ℕ) → length b ≤ I.n → cost_of I b ≢ None → as_number (cost_of I b) < NONE
  permitted_below b l h = omega (arith, number_most total_limit (cost_of I b) (full_limit b l) h)
