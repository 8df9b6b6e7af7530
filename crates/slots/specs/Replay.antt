-- A recorded run, replayed. 02, job 14: "Replay it on a lent shed with the 300-cell pool, its table and its run's order of values". What it comes to is proved in Laws.
-- Assumes nothing.
--     cells_in                       the cells that a list names
--     deliver_until, replay_of        the call
--     Replayed                      what it has to do with the deliveries one after another
--     Parts                         a list that was cut
use Rattle.std.specs.Prelude.{ℕ, ◌%◌, ◌<◌, ◌≡◌, ◌≢◌, ◌⊎◌, cond, List, [], ◌∷◌, ◌++◌, eqb, length, get_or, take}
use Rattle.base.specs.Bytes.{u16_at}
use Rattle.costs.specs.declared.ValueOrder.{ValueOrder}
use Rattle.runs.specs.{declared.Core.Core, Deliveries.deliver_all, Deliveries.accepted_in}
use Rattle.slots.specs.{Calls.Result, Calls.refused_with, Calls.deliver_of, Demand3.Shed, Demand3.shed_of, Demand3.refusal_at, Demand3.delivery, Settle.settled}
pub mod Laws

-- 02: "a list of cells in the order delivered, one byte pair each, low byte first"; a byte alone names none
unfoldable pub cells_in : List ℕ → List ℕ
cells_in [] = []
cells_in (low ∷ []) = []
cells_in (low ∷ high ∷ list) = u16_at (low ∷ high ∷ []) 0 ∷ cells_in list

-- 02: "It ends at the first refusal, with that refusal's number, and the deliveries before it stand"
unfoldable pub deliver_until : ValueOrder → List ℕ → Shed → List ℕ → Result
deliver_until order stream S [] = settled S
deliver_until order stream S (c ∷ cs) =
    let r = deliver_of order S.core stream S.pool c in
    cond (eqb r.answer.refusal 0) (deliver_until order stream (shed_of r) cs) r

-- in pairs
abbrev pub Paired : List ℕ → Type 0
Paired list = length list % 2 ≡ 0

-- 02: "A list of odd length is 22, before any other check; an empty one is never refused."
unfoldable pub replay_of : ValueOrder → Core → List ℕ → List ℕ → List ℕ → Result
replay_of order core stream pool list = cond (eqb (length list % 2) 0) (deliver_until order stream (record { core = core; pool = pool }) (cells_in list)) (refused_with core pool 22)

-- 02: "state, pool and counts equal those of the deliveries one after another": `before` of them, each accepted; then the list is at its end, or its next cell is refused
pub record Replayed (order : ValueOrder) (stream : List ℕ) (S : Shed) (cells : List ℕ) (r : Result) : Type 0 where
  pub before : ℕ
  pub stands : shed_of r ≡ deliver_all (delivery order stream) S (take before cells)
  pub accepted : accepted_in (delivery order stream) S (take before cells) ≡ before
  pub ends : ((before ≡ length cells) × (r.answer.refusal ≡ 0))
      ⊎ ((before < length cells) × (r.answer.refusal ≡ refusal_at order stream (shed_of r) (get_or cells before 0)) × (r.answer.refusal ≢ 0))

-- 02: "a list cut between two pairs, its parts replayed in turn, gives the same as the whole, if its first part meets no refusal"
abbrev pub Parts : ValueOrder → Core → List ℕ → List ℕ → List ℕ → List ℕ → Type 0
Parts order core stream pool first rest =
    let r = replay_of order core stream pool first in r.answer.refusal ≡ 0 → replay_of order core stream pool (first ++ rest) ≡ replay_of order r.answer.core stream r.pool rest
