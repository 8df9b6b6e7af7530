-- What the tests of a message's way say, once they are decided.
-- By the clauses of the definitions. Assumes nothing.
use Prim.Native.Nat.{ℕ, suc, ◌+◌, ◌-◌, ◌≤◌}
use mathlib.Core.Path.{◌≡◌, ◌∙◌}
use mathlib.Core.Bool.{true}
use mathlib.Core.List.{List, []}
use lib.Dec.{ltb}
use lib.ListN.{get_or, set}
use borrow.Author.Tests.{lt-ltb}
use Rattle.base.specs.Sums.{sum_from}
use Rattle.costs.specs.declared.Seat.{Seat}
use Rattle.costs.specs.Instance.{View, view_knowing}
use Rattle.message.specs.declared.Message.{Message}
use Rattle.rules.specs.declared.Unit.{Unit}
use Rattle.rules.specs.State.{same_on}
use Rattle.rules.specs.Tests.{sum_later}
use Rattle.rules.specs.Way.{stays_below}
use Rattle.decide.proofs.Lent.{own-lent, n-lent}

-- ---- an estimate of the CPA out

module _ (own n : ℕ) (u : Unit) (m : Message) where
  module _ (out : 1 ≤ get_or u.values (own - 1) 0) where
    pub same_stamp : same_on own m.stamp u.stamp ≡ true → (cost bound sum : ℕ) → cost ≡ u.cost → bound ≡ u.bound
        → sum ≡ sum_from (λ (j : ℕ). get_or (set u.estimates (m.sender - 1) m.cost) j 0) own (n - own) → ltb (cost + sum) bound ≡ stays_below own n u m
    same_stamp e cost bound sum c b s = rw (c, b, s) (simp (lt-ltb 0 (get_or u.values (own - 1) 0) out, e))

-- a sum that is known of every view of the unit
pub summed : (seat : Seat) (l : List ℕ) (r : ℕ) → 1 ≤ seat.own → ((w : View) → suc w.place ≡ seat.own → w.n ≡ seat.n → r ≡ sum_later w l)
    → r ≡ sum_from (λ (j : ℕ). get_or l j 0) seat.own (seat.n - seat.own)
summed seat l r first f =
    f (view_knowing seat [] []) (own-lent seat [] [] first) (n-lent seat [] []) ∙ rw (own-lent seat [] [] first, n-lent seat [] [])
