-- `improve` meets its contract: the parts set are those of `improved_by`, at the unit's place.
-- Assumes nothing.
use Prim.Native.Nat.{◌+◌, ◌-◌, ◌<◌}
use native.Mathlib.Omega.{arith}
use native.Mathlib.Numerals.{add-one}
use mathlib.Core.Path.{◌≡◌, ap, ◌∙◌}
use lib.ListN.{length, set}
use lib.Seq.{get_or-set_same}
use borrow.Author.Rules.{rules}
use Rattle.rules.specs.declared.Unit.{Unit}
use Rattle.rules.specs.State.{with_threshold, with_counter}
use Rattle.decide.proofs.assign.improve.Goals as goal

pub returns : goal.returns
returns c =
    let a = c.args in
    let l : length a.t.stamp ≡ 16 = search rules in
    let i : a.own - 1 < length a.t.stamp = omega arith in
    rw c.from-place.ensures (
      get_or-set_same a.t.stamp (a.own - 1) (a.t.counter + 1) 0 i,
      λ w e o. let p : w.place ≡ a.own - 1 = omega arith in
          ap (λ (u : Unit). with_threshold (set a.t.stamp (a.own - 1) (a.t.counter + 1)) (with_counter (a.t.counter + 1) u)) (rw c.from-place.ensures at (c.with_best.ensures e)) ∙ rw (p, add-one),
    )
