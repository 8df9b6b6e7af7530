-- `check` meets its contract: each way out is one answer of `stream_refusal`, by the law that says so. What code counts is what the
-- stream says, so its tests are those of `stream_refusal`.
-- Assumes nothing.
use Prim.Native.Nat.{ℕ, ◌+◌, ◌*◌, ◌<◌}
use mathlib.Core.Path.{◌≡◌, refl, sym, ap, ap₂, ◌∙◌}
use mathlib.Core.Bool.{true}
use mathlib.Core.List.{List}
use native.Mathlib.Omega.{arith}
use lib.ListN.{length, get_or}
use Rattle.table.specs.Stream.{opening, units_of, sizes_of, unaries_in, pairs_in, unaries_at, pairs_at, needed, pair_good, unary_good, costs_good}
use Rattle.table.specs.Seen.{seen}
use Rattle.table.specs.View.{Shaped}
use Rattle.table.specs.StreamLaws.{sizes-found, unaries_found, refused_length, refused_unary, refused_pair, accepted_by_tests}
use Rattle.table.proofs.view.View.check.Goals as goal
use Rattle.table.proofs.view.View.check.Goals.{After-byte-n, After-pairs_in-pairs, Else-self-pairs_at, After-costs_good, After-costs_good-2}

-- n and all sizes are there
module _ (c : After-byte-n) where
  abbrev before : ℕ
  before = c.opening-before.result

  abbrev n : ℕ
  n = c.byte-n.result

  abbrev s : List ℕ
  s = seen c.args.self.now

  opens : before ≡ opening s
  opens = c.opening-before.ensures.0

  units : n ≡ units_of s
  units = c.byte-n.ensures.0 ∙ ap (λ (k : ℕ). get_or s k 0) opens

  shaped : Shaped s
  shaped = c.in_ok-check_shape.ensures.0 refl

  some : opening s < length s
  some = omega (arith, shaped.2)

  behind : before + 1 + n ≡ unaries_at s
  behind = omega (arith, opens, units)

-- the costs are counted
module _ (c : After-pairs_in-pairs) where
  unaries : c.unaries_in-unaries.result ≡ unaries_in (s (goal.at.After-pairs_in-pairs c).After-byte-n)
  unaries = c.unaries_in-unaries.ensures.0 ∙ unaries_found (s (goal.at.After-pairs_in-pairs c).After-byte-n) (before (goal.at.After-pairs_in-pairs c).After-byte-n) (n (goal.at.After-pairs_in-pairs c).After-byte-n) (opens (goal.at.After-pairs_in-pairs c).After-byte-n) (units (goal.at.After-pairs_in-pairs c).After-byte-n)

  pairs : c.pairs_in-pairs.result ≡ pairs_in (sizes_of (s (goal.at.After-pairs_in-pairs c).After-byte-n))
  pairs = c.pairs_in-pairs.ensures.0 ∙ ap pairs_in (sizes-found (s (goal.at.After-pairs_in-pairs c).After-byte-n) (before (goal.at.After-pairs_in-pairs c).After-byte-n) (n (goal.at.After-pairs_in-pairs c).After-byte-n) (opens (goal.at.After-pairs_in-pairs c).After-byte-n) (units (goal.at.After-pairs_in-pairs c).After-byte-n))

  pairs-from : before (goal.at.After-pairs_in-pairs c).After-byte-n + 1 + n (goal.at.After-pairs_in-pairs c).After-byte-n + 2 * c.unaries_in-unaries.result ≡ pairs_at (s (goal.at.After-pairs_in-pairs c).After-byte-n)
  pairs-from = omega (arith, behind (goal.at.After-pairs_in-pairs c).After-byte-n, unaries)

-- and are as many as there are bytes for
whole : (c : Else-self-pairs_at) → length (s (goal.at.Else-self-pairs_at c).After-byte-n) ≡ needed (s (goal.at.Else-self-pairs_at c).After-byte-n)
whole c = omega (arith, c.args.self.now.viewed.counted, c.if-self-pairs_at.false, pairs-from (goal.at.Else-self-pairs_at c).After-pairs_in-pairs, pairs (goal.at.Else-self-pairs_at c).After-pairs_in-pairs)

-- the tests of costs are those of the stream
module _ (c : After-costs_good) where
  unary-test : costs_good unary_good (s (goal.at.After-costs_good c).After-byte-n) (unaries_at (s (goal.at.After-costs_good c).After-byte-n)) (unaries_in (s (goal.at.After-costs_good c).After-byte-n)) ≡ c.costs_good.result
  unary-test = ap₂ (costs_good unary_good (s (goal.at.After-costs_good c).After-byte-n)) (sym (behind (goal.at.After-costs_good c).After-byte-n)) (sym (unaries (goal.at.After-costs_good c).After-pairs_in-pairs)) ∙ sym c.costs_good.ensures

module _ (c : After-costs_good-2) where
  abbrev t : List ℕ
  t = s (goal.at.After-costs_good-2 c).After-byte-n

  unary-passes : costs_good unary_good t (unaries_at t) (unaries_in t) ≡ true
  unary-passes = unary-test (goal.at.After-costs_good-2 c).After-costs_good ∙ c.if-not-costs_good.false

  pair-test : costs_good pair_good t (pairs_at t) (pairs_in (sizes_of t)) ≡ c.costs_good-2.result
  pair-test = ap₂ (costs_good pair_good t) (sym (pairs-from (goal.at.After-costs_good-2 c).After-pairs_in-pairs)) (sym (pairs (goal.at.After-costs_good-2 c).After-pairs_in-pairs)) ∙ sym c.costs_good-2.ensures

pub returns-then-self-pairs_at : goal.returns-then-self-pairs_at
returns-then-self-pairs_at c =
    let past = goal.at.returns-then-self-pairs_at c in
    refused_length (s past.After-byte-n) (some past.After-byte-n) (shaped past.After-byte-n).0 (shaped past.After-byte-n).1 (λ l. c.if-self-pairs_at.true (omega (arith, l, c.args.self.now.viewed.counted, pairs-from past.After-pairs_in-pairs, pairs past.After-pairs_in-pairs)))

pub returns-then-not-costs_good : goal.returns-then-not-costs_good
returns-then-not-costs_good c =
    let past = goal.at.returns-then-not-costs_good c in
    refused_unary (s past.After-byte-n) (some past.After-byte-n) (shaped past.After-byte-n).0 (shaped past.After-byte-n).1 (whole past.Else-self-pairs_at) (unary-test past.After-costs_good ∙ c.if-not-costs_good.true)

pub returns-then-not-costs_good-2 : goal.returns-then-not-costs_good-2
returns-then-not-costs_good-2 c =
    let past = goal.at.returns-then-not-costs_good-2 c in
    refused_pair (s past.After-byte-n) (some past.After-byte-n) (shaped past.After-byte-n).0 (shaped past.After-byte-n).1 (whole past.Else-self-pairs_at) (unary-passes past.After-costs_good-2) (pair-test past.After-costs_good-2 ∙ c.if-not-costs_good-2.true)

pub returns : goal.returns
returns c =
    let past = goal.at.returns c in
    accepted_by_tests (s past.After-byte-n) (some past.After-byte-n) (shaped past.After-byte-n).0 (shaped past.After-byte-n).1 (whole past.Else-self-pairs_at) (unary-passes past.After-costs_good-2) (pair-test past.After-costs_good-2 ∙ c.if-not-costs_good-2.false)
