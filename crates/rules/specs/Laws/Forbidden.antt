-- What 02, job 3, says of a unit: a value that is forbidden with a filled one, or has no h, is passed over even with no bound; an estimate of NONE
-- makes the unit assign; a state whose own value is forbidden with a filled one is out of range. By the tests of each definition.
-- Assumes nothing.
use Rattle.std.specs.Prelude.{ℕ, suc, ◌+◌, ◌-◌, ◌≤◌, ◌<◌, ◌≡◌, refl, Bool, true, false, ◌&&◌, List, length, get_or, None}
use Rattle.std.proofs.Common.{ap, arith, get_or-set_same, le-leb}
use Rattle.base.specs.Limits.{NONE}
use Rattle.base.specs.Sums.Laws.{sum_from-part}
use Rattle.costs.specs.Cost.{as_number}
use Rattle.costs.specs.Laws.{limit_total}
use Rattle.costs.specs.Cost.Laws.{add_forbidden}
use Rattle.costs.specs.Instance.{View}
use Rattle.costs.specs.Bounds.{cost_with, h}
use Rattle.costs.specs.Order.{next}
use Rattle.message.specs.declared.Message.{Message}
use Rattle.rules.specs.declared.Unit.{Unit}
use Rattle.std.specs.declared.cmp.Ordering.TheVariants.{Equal}
use Rattle.rules.specs.State.{own_value, compare_on, same_on, in_range}
use Rattle.rules.specs.Step.{try_after, assign, is_out, on_estimate}
use Rattle.rules.specs.Tests.{cost_at, sum_later, stored}
use Rattle.rules.specs.Laws.Range.{range_facts}

-- 02: "if there are none, the value can't be written, even with no bound"
pub no_h-passed_over : (w : View) (m v : ℕ) (improved : Bool) (u : Unit) → h w (next w v) ≡ None → try_after w (suc m) v improved u ≡ try_after w m (next w v) improved u
unfolding try_after
no_h-passed_over w m v improved u e = rw (e, add_forbidden (cost_at w (next w v) u))

-- "A lotting with a barred pair isn't a lotting"
pub forbidden_passed_over : (w : View) (m v : ℕ) (improved : Bool) (u : Unit) → cost_with w u.values w.place (next w v) ≡ None → try_after w (suc m) v improved u ≡ try_after w m (next w v) improved u
unfolding try_after
forbidden_passed_over w m v improved u e = rw e

-- an estimate of NONE from a later unit reaches every bound
pub none_reaches : (w : View) (u : Unit) (m : Message) → length u.estimates ≡ 16 → m.sender ≤ 16 → suc w.place < m.sender → m.sender ≤ w.n → m.cost ≡ NONE → u.bound ≤ NONE
    → u.bound ≤ u.cost + sum_later w (stored m u).estimates
none_reaches w u m sized few later inside e most =
    let here : get_or (stored m u).estimates (m.sender - 1) 0 ≡ m.cost = get_or-set_same u.estimates (m.sender - 1) m.cost 0 (omega arith) in
    let part = sum_from-part (λ (j : ℕ). get_or (stored m u).estimates j 0) (suc w.place) (w.n - suc w.place) (m.sender - 1) (omega arith) (omega arith) in
    omega (arith, here, part)

-- 02: "and the box it reaches, unless it is stale or 11, then assigns": what it was before the estimate came, as assigning clears them
pub none_assigns : (w : View) (u : Unit) (m : Message) → compare_on (suc w.place) m.stamp u.threshold ≡ Equal → (is_out w u && same_on (suc w.place) m.stamp u.stamp) ≡ true
    → length u.estimates ≡ 16 → m.sender ≤ 16 → suc w.place < m.sender → m.sender ≤ w.n → m.cost ≡ NONE → u.bound ≤ NONE → on_estimate w u m ≡ assign w u
unfolding on_estimate assign
none_assigns w u m order out sized few later inside e most =
    rw (order, out, le-leb u.bound (u.cost + sum_later w (stored m u).estimates) (none_reaches w u m sized few later inside e most))

-- 02: "A lent paper whose own value is barred with a filled one is out of range."
pub forbidden_out_of_range : (sizes : List ℕ) (w : View) (u : Unit) → w.place < 16 → 1 ≤ own_value w u → cost_with w u.values w.place (own_value w u) ≡ None → in_range sizes w u ≡ false
forbidden_out_of_range sizes w u k o e = go (in_range sizes w u) refl
  where
    go : (t : Bool) → in_range sizes w u ≡ t → t ≡ false
    go true q =
        let out = (range_facts sizes w u q).out o in
        absurd (omega (arith, out.paid, out.cost, limit_total (suc w.place) k, ap as_number e))
    go false q = refl
