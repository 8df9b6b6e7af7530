-- The laws of the problem in either order of values. Assumes nothing.
use Rattle.std.specs.Prelude.{ℕ, ◌+◌, ◌-◌, ◌≤◌, List, length}
use Rattle.std.proofs.Common.{sym, subst, arith}
use Rattle.base.specs.Sums as N
use Rattle.costs.specs.declared.ValueOrder.{ValueOrder}
use Rattle.costs.specs.Cost.{as_number}
use Rattle.costs.specs.Instance.{Instance}
use Rattle.costs.specs.Problem.{Laws}
use Rattle.costs.specs.Laws.{Sound, cost_of, estimate_of, problem_of}
use Rattle.costs.proofs.Laws.{laws_of}
use Rattle.costs.specs.Laws.Tried.{length_values, problem_by, to_places, values_at}

-- ---- the laws, for either order

module _ (o : ValueOrder) (I : Instance) where
  pub laws_by : Sound I → Laws (problem_by o I)
  laws_by s =
      record {
        size_le_16 = s.dom16;
        cost_le_lookahead = λ b few. l.cost_le_lookahead (values_at o I b) few;
        closed_by_lookahead = λ b B le h. to_places o I b B (l.closed_by_lookahead (values_at o I b) B (short b le) h);
        closed_by_cost = λ b B le h. to_places o I b B (l.closed_by_cost (values_at o I b) B (short b le) h);
        closed_by_estimates = λ b B le h.
            to_places o I b B
            (l.closed_by_estimates (values_at o I b) B (short b le)
            (subst (λ k. B ≤ as_number (cost_of I (values_at o I b)) + N.sum_from (λ j. as_number (estimate_of I j (values_at o I b))) k (I.n - k)) (sym (length_values o I b)) h));
      }
    where
      l : Laws (problem_of I)
      l = laws_of I s

      short : (b : List ℕ) → length b ≤ I.n → length (values_at o I b) ≤ I.n
      short b le = omega (arith, length_values o I b, le)
