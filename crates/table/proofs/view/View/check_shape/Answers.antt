-- `check_shape` meets its contract: each way out is one answer of `stream_refusal`, or says that and.before.before all sizes are there.
-- Assumes nothing.
use Prim.Native.Nat.{ℕ, ◌+◌, ◌<◌}
use mathlib.Core.Path.{◌≡◌, sym, ap, ◌∙◌}
use mathlib.Core.Bool.{true}
use mathlib.Core.List.{List}
use native.Mathlib.Omega.{arith}
use lib.ListN.{length, get_or}
use Rattle.base.specs.Shape.{all_in_sixteen}
use Rattle.base.specs.Shape.Laws.{in_sixteen}
use Rattle.table.specs.Stream.{opening, units_of, sizes_of, unaries_at}
use Rattle.table.specs.Seen.{seen}
use Rattle.table.specs.StreamLaws.{sizes-found, refused_short, refused_units, refused-sizes, refused_length}
use Rattle.table.proofs.view.View.check_shape.Goals as goal
use Rattle.table.proofs.view.View.check_shape.Goals.{After-is_value, After-sizes_good}

-- the tests of and.before.before the sizes are those of the stream
module _ (c : After-is_value) where
  abbrev s : List ℕ
  s = seen c.args.self.now

  some : opening s < length s
  some = omega (arith, c.args.self.now.viewed.counted, c.if-self-before.false)

  units : c.byte-n.result ≡ units_of s
  units = c.byte-n.ensures.0 ∙ ap (λ (k : ℕ). get_or s k 0) c.requires.0

  behind : c.args.before + 1 + c.byte-n.result ≡ unaries_at s
  behind = omega (arith, c.requires.0, units)

  units-test : in_sixteen (units_of s) ≡ c.is_value.result
  units-test = ap in_sixteen (sym units) ∙ sym c.is_value.ensures

module _ (c : After-sizes_good) where
  units-good : in_sixteen (units_of (s (goal.at.After-sizes_good c).After-is_value)) ≡ true
  units-good = units-test (goal.at.After-sizes_good c).After-is_value ∙ c.if-not-is_value.false

  sizes-test : all_in_sixteen (sizes_of (s (goal.at.After-sizes_good c).After-is_value)) ≡ c.sizes_good.result
  sizes-test = ap all_in_sixteen (sym (sizes-found (s (goal.at.After-sizes_good c).After-is_value) c.args.before c.byte-n.result c.requires.0 (units (goal.at.After-sizes_good c).After-is_value))) ∙ sym c.sizes_good.ensures

pub returns-then-self-before : goal.returns-then-self-before
returns-then-self-before c =
    (λ e. absurd (omega (arith, e)), λ _. refused_short (seen c.args.self.now) (omega (arith, c.args.self.now.viewed.counted)))

pub returns-then-not-is_value : goal.returns-then-not-is_value
returns-then-not-is_value c =
    (λ e. absurd (omega (arith, e)), λ _. refused_units (s (goal.at.returns-then-not-is_value c).After-is_value) (some (goal.at.returns-then-not-is_value c).After-is_value) (units-test (goal.at.returns-then-not-is_value c).After-is_value ∙ c.if-not-is_value.true))

pub returns-then-not-sizes_good : goal.returns-then-not-sizes_good
returns-then-not-sizes_good c =
    (λ e. absurd (omega (arith, e)), λ _. refused-sizes (s (goal.at.returns-then-not-sizes_good c).After-is_value) (some (goal.at.returns-then-not-sizes_good c).After-is_value) (units-good (goal.at.returns-then-not-sizes_good c).After-sizes_good) (sizes-test (goal.at.returns-then-not-sizes_good c).After-sizes_good ∙ c.if-not-sizes_good.true))

pub returns-then-self-before-2 : goal.returns-then-self-before-2
returns-then-self-before-2 c =
    (λ e. absurd (omega (arith, e)), λ _. refused_length (s (goal.at.returns-then-self-before-2 c).After-is_value) (some (goal.at.returns-then-self-before-2 c).After-is_value) (units-good (goal.at.returns-then-self-before-2 c).After-sizes_good) (sizes-test (goal.at.returns-then-self-before-2 c).After-sizes_good ∙ c.if-not-sizes_good.false) (λ l. omega (arith, c.args.self.now.viewed.counted, behind (goal.at.returns-then-self-before-2 c).After-is_value)))
