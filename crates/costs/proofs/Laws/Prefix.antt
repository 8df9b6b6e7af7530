-- Full prefixes are assignments, what is reported of them, and the limit of an array's total. Assumes nothing.
use Rattle.std.specs.Prelude.{◌≡◌, ℕ, ◌≤◌, ◌≢◌, List, [], slice_index, refl, Some, None}
use Rattle.std.proofs.Common.{sym, ◌∙◌, subst, inl, inr, arith}
use Rattle.std.proofs.Math.Path.{ap}
use Rattle.base.specs.Limits.{NONE, total_limit}
use Rattle.costs.specs.Cost.{Cost, as_number}
use Rattle.costs.specs.Instance.{Instance}
use Rattle.costs.specs.Bounds.{Assignment, total, Reported}
use Rattle.costs.specs.Problem.{Full, Closed, closed-least}
use Rattle.costs.specs.Cost.Laws.{AtMost, number_below, number_is}
use Rattle.costs.specs.Laws.{Sound, cost_of, problem_of, full_limit, permitted_below}
use Rattle.costs.specs.Laws.Prefix.{in_dom_prefix, length_pre, permitted_total, pre, prefix_in_dom, total_permitted, total_prefix}

module _ (I : Instance) where
  pub full_assignment : (l : List ℕ) → Full (problem_of I) (pre I.n l) → Assignment I l
  full_assignment l f = (in_dom_prefix I I.n l f.1, total_permitted I l (subst (λ (x : Cost). x ≢ None) (sym (total_prefix I l)) (number_below (cost_of I (pre I.n l)) f.2)))

module _ (I : Instance) (s : Sound I) where
  pub assignment_full : (l : List ℕ) → Assignment I l → Full (problem_of I) (pre I.n l)
  assignment_full l a = (
    length_pre I.n l,
    prefix_in_dom I I.n l a.0,
    permitted_below I s (pre I.n l) (omega (arith, length_pre I.n l)) (subst (λ (x : Cost). x ≢ None) (total_prefix I l) (permitted_total I l a.1)),
  )

  -- once the empty prefix is closed, every assignment totals at least that
  pub closed-total : (B : ℕ) → Closed (problem_of I) [] B → (l : List ℕ) → Assignment I l → B ≤ as_number (total I l)
  closed-total B c l a = rw (total_prefix I l) (closed-least (problem_of I) B c (pre I.n l) (assignment_full l a))

  -- ---- what is reported: NONE where the empty prefix is closed by it, or the cost of a full prefix that closes the empty one

  pub none_reported : (best : List ℕ) → ((k : ℕ) → slice_index best k ≡ 0) → Closed (problem_of I) [] NONE → Reported I NONE best
  none_reported best z c = inl (refl, z, λ l a. let f = assignment_full l a in omega (arith, closed-least (problem_of I) NONE c (pre I.n l) f, f.2))

  pub full_reported : (B : ℕ) (best : List ℕ) → B ≡ as_number (cost_of I (pre I.n best)) → Full (problem_of I) (pre I.n best) → Closed (problem_of I) [] B → Reported I B best
  full_reported B best e f c =
      let number : cost_of I (pre I.n best) ≡ Some B = number_is (cost_of I (pre I.n best)) (number_below (cost_of I (pre I.n best)) f.2) ∙ ap Some (sym e) in
      inr (full_assignment I best f, total_prefix I best ∙ number, closed-total B c)

-- ---- the limit, of arrays

module _ (I : Instance) (s : Sound I) where
  pub total_limit_lem : (l : List ℕ) → AtMost total_limit (total I l)
  total_limit_lem l = rw (total_prefix I l) (full_limit I s (pre I.n l) (omega (arith, length_pre I.n l)))
