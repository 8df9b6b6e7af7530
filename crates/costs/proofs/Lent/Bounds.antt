-- What check 7 gives of lookaheads and estimates. Assumes nothing.
use Rattle.std.specs.Prelude.{◌≡◌, ℕ, suc, ◌+◌, ◌-◌, ◌*◌, ◌≤◌, List}
use Rattle.std.proofs.Math.Path.{subst}
use Rattle.std.proofs.Common.{sym}
use Rattle.base.specs.Limits.{pair_limit, unary_limit}
use Rattle.costs.specs.Cost.{◌⊕◌, least}
use Rattle.costs.specs.Cost.Laws.{AtMost, most_add, most-sum_from}
use Rattle.costs.proofs.LeastOf.{most-least}
use Rattle.costs.specs.Instance.{View, lookahead}
use Rattle.costs.specs.Bounds.{cost_with, h, estimate}
use Rattle.costs.specs.Lent.Bounds.{cost-most}

module _ (w : View) (unary-small : (v : ℕ) → w.unary v ≤ unary_limit) (small : (j u v : ℕ) → AtMost pair_limit (w.pair j u v)) where
  lookahead-most : (v : ℕ) → AtMost (pair_limit * (w.n - suc w.place)) (lookahead w.place w.n w.dom w.pair v)
  lookahead-most v =
      most-sum_from pair_limit (λ j. least (λ u. w.pair j u v) (w.dom j)) (suc w.place) (w.n - suc w.place)
      (λ j. most-least pair_limit (λ u. w.pair j u v) (w.dom j) (λ u. small j u v))

  -- where h is what `lookahead` says
  module _ (looks : (v : ℕ) → w.ahead v ≡ lookahead w.place w.n w.dom w.pair v) where
    h-most : (v : ℕ) → AtMost (pair_limit * (w.n - suc w.place)) (h w v)
    unfolding h
    h-most v = subst (AtMost (pair_limit * (w.n - suc w.place))) (sym (looks v)) (lookahead-most v)

    pub estimate-most : (values : List ℕ) (k : ℕ) → AtMost (unary_limit + pair_limit * k + pair_limit * (w.n - suc w.place)) (estimate w values k)
    unfolding estimate
    estimate-most values k =
        most-least (unary_limit + pair_limit * k + pair_limit * (w.n - suc w.place)) (λ v. cost_with w values k v ⊕ h w v) (w.dom w.place)
        (λ v. most_add (unary_limit + pair_limit * k) (pair_limit * (w.n - suc w.place)) (cost_with w values k v) (h w v) (cost-most w unary-small small values k v) (h-most v))
