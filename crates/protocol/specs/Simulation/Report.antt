-- What a unit reports once it has stopped, said of the instance: the least total over its assignments, or NONE where there is none, in either order. The
-- report that Demand3 speaks of is over places and numbers; that these are the table's assignments and totals is from `costs`, and that the unit's array holds
-- the machine's best is in what corresponds. Whatever pool there is.
-- Assumes nothing.
use Rattle.std.specs.Prelude.{ℕ, ◌≡◌, List, [], length, get_or}
use Rattle.std.proofs.Common.{sym, ap, ◌∙◌, subst, inl, inr, arith}
use Rattle.costs.specs.declared.ValueOrder.{ValueOrder}
use Rattle.costs.specs.Cost.{as_number}
use Rattle.costs.specs.Instance.{Instance}
use Rattle.costs.specs.Bounds.{Reported}
use Rattle.costs.specs.Laws.{Sound, cost_of, problem_of}
use Rattle.costs.specs.Laws.Prefix.{pre, length_pre}
use Rattle.costs.proofs.Laws.Prefix.{none_reported, full_reported}
use Rattle.costs.specs.Laws.Tried.{values_at, problem_by, closed_empty, full_values}
use Rattle.rules.specs.declared.Unit.{Unit as UnitState}
use Rattle.protocol.specs.Problem.{Full, Closed, ValidBound}
use Rattle.protocol.specs.Machine.{Agent}
use Rattle.protocol.specs.Simulation.Stamps.{zero_place}
use Rattle.protocol.specs.Simulation.Relations.{BestIs, AtRest}

module _ (order : ValueOrder) (I : Instance) (snd : Sound I) where
  -- an array that holds no best is zero
  empty_zeros : (l a : List ℕ) → l ≡ [] → BestIs order I a l → (k : ℕ) → get_or a k 0 ≡ 0
  empty_zeros l a e (inl q) k = ap (λ (z : List ℕ). get_or z k 0) q.1 ∙ zero_place k
  empty_zeros l a e (inr q) k = absurd (omega (arith, snd.n1, length_pre I.n a, ap length (q ∙ ap (values_at order I) e)))

  -- and a full one is read off it
  pub full_read : (l a : List ℕ) → length l ≡ I.n → BestIs order I a l → pre I.n a ≡ values_at order I l
  full_read l a e (inl q) = absurd (omega (arith, snd.n1, e, ap length q.0))
  full_read l a e (inr q) = q

  -- a valid bound that closes the empty prefix is what is to be reported
  valid_reported : (B : ℕ) (l a : List ℕ) → ValidBound (problem_by order I) B l → Closed (problem_by order I) [] B → BestIs order I a l → Reported I B a
  valid_reported B l a (inl q) c b = rw q.0 (none_reported I snd a (empty_zeros l a q.1 b) (subst (λ x. Closed (problem_of I) [] x) q.0 (closed_empty order I B c)))
  valid_reported B l a (inr q) c b =
      let e : pre I.n a ≡ values_at order I l = full_read l a q.1.0 b in
      full_reported I snd B a (q.0 ∙ ap (λ (z : List ℕ). as_number (cost_of I z)) (sym e)) (subst (λ z. Full (problem_of I) z) (sym e) (full_values order I l q.1)) (closed_empty order I B c)

  pub reports : (k : ℕ) (s : UnitState) (u : Agent) → AtRest order I k s u → ValidBound (problem_by order I) u.bound u.best → Closed (problem_by order I) [] u.bound → Reported I s.bound s.best
  reports k s u r valid closed = rw r.common.bound_is (valid_reported u.bound u.best s.best valid closed r.common.best_is)
