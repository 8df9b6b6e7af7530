-- What the tests of lent costs return. Each by taking the definition's tests apart.
-- Assumes nothing.
use Rattle.std.specs.Prelude.{◌≡◌, ℕ, ◌-◌, ◌*◌, true, false, List, length, ◌≢◌}
use borrow.Author.Tests.{eq-eqb, ne_eqb}
use Rattle.table.specs.Stream.{unary_good, pair_good, costs_good}
use Rattle.costs.specs.Lent.{unary_count, lent_count, lent_good, lent_refusal}

-- m costs touch the unit, of which d are unary
module _ (own n : ℕ) (sizes costs : List ℕ) (d m : ℕ) (unaries : d ≡ unary_count own n sizes) (all : m ≡ lent_count own n sizes) where
  pub refusal_length : (length costs ≢ 2 * m) → lent_refusal own n sizes costs ≡ 6
  unfolding lent_refusal
  refusal_length h = rw (← all, ne_eqb (length costs) (2 * m) h)

  module _ (size : length costs ≡ 2 * m) where
    pub refusal_unary : costs_good unary_good costs 0 d ≡ false → lent_refusal own n sizes costs ≡ 7
    unfolding lent_refusal lent_good
    refusal_unary g = rw (← all, ← unaries, eq-eqb (length costs) (2 * m) size, g)

    pub refusal_pair : costs_good unary_good costs 0 d ≡ true → costs_good pair_good costs (2 * d) (m - d) ≡ false → lent_refusal own n sizes costs ≡ 7
    unfolding lent_refusal lent_good
    refusal_pair g f = rw (← all, ← unaries, eq-eqb (length costs) (2 * m) size, g, f)

    pub refusal_none : costs_good unary_good costs 0 d ≡ true → costs_good pair_good costs (2 * d) (m - d) ≡ true → lent_refusal own n sizes costs ≡ 0
    unfolding lent_refusal lent_good
    refusal_none g f = rw (← all, ← unaries, eq-eqb (length costs) (2 * m) size, g, f)
