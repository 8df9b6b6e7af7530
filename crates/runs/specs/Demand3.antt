-- DEMAND 3, stated: one theorem over every list of deliveries to a network of an accepted table, about the very definitions that
-- the contracts of `network::make_by` and `network::deliver_by` cite, for either order of values. 02, job 9: "in a run, the making and every delivery ..
-- name the same one". Its proof is `demand3` of Theorem.antt. Assumes nothing.
--     Shed, shed_after, run_bytes     the run on bytes: the network and the pool after making and a list of cells
--     over, report_of                whether the run has ended, and what it then reports
--     Follows                       what the bytes have to do with the run over messages (Run.antt)
--     Served                        what holds of one run
--     Demand3                       two runs of one table
use Rattle.std.specs.Prelude.{ℕ, ◌+◌, ◌*◌, ◌-◌, ◌≤◌, ◌≡◌, ◌⊎◌, Bool, true, false, cond, List, [], ◌∷◌, map, length, take}
use Rattle.base.specs.Limits.{message_size}
use Rattle.costs.specs.declared.ValueOrder.{ValueOrder}
use Rattle.costs.specs.{Instance.Instance, Instance.instance_of, Bounds.Reported, Bounds.N, Least.LeastFirst, Least.Padded}
use Rattle.message.specs.Message.{Packet}
use Rattle.rules.specs.{Send.packet_bytes, Send.encode_all, Units.unit_at, Units.Distinct}
use Rattle.runs.specs.{declared.Network.Network, Count.value_of, Pool.cell_of, Run.History, Run.run, Run.written, Calls.Result, Calls.make_of, Calls.deliver_of}
use Rattle.runs.specs.Deliveries.{Delivery, deliver_all, accepted_in, handed_in}

-- ---- the run on bytes

-- 01: "shed": the network and the bytes of its pool
pub record Shed : Type 0 where
  pub network : Network
  pub pool : List ℕ

abbrev pub shed_of : Result → Shed
shed_of r = record { network = r.answer.network; pool = r.pool }

-- 01: "A table is accepted when making a shed of it isn't refused."
abbrev pub Made : ValueOrder → List ℕ → List ℕ → Type 0
Made order stream pool = (make_of order stream pool).answer.refusal ≡ 0

-- as making leaves it
abbrev pub shed_made : ValueOrder → List ℕ → List ℕ → Shed
shed_made order stream pool = shed_of (make_of order stream pool)

-- 01: "gets the units, counts and pool as the one before left them"; one that is refused gives the network and pool as lent
abbrev pub shed_after : ValueOrder → List ℕ → Shed → ℕ → Shed
shed_after order stream S cell = shed_of (deliver_of order S.network stream S.pool cell)

-- the refusal of the next delivery, 0 where it is accepted
abbrev pub refusal_at : ValueOrder → List ℕ → Shed → ℕ → ℕ
refusal_at order stream S cell = (deliver_of order S.network stream S.pool cell).answer.refusal

-- the delivery of a cell, for a list of them (Deliveries.antt)
abbrev pub delivery : ValueOrder → List ℕ → Delivery Shed
delivery order stream = record { refusal = refusal_at order stream; after = shed_after order stream; bytes = λ (S : Shed) (cell : ℕ). cell_of S.pool cell }

-- 01: "A run is a list of deliveries to a shed as making left it."
unfoldable pub run_bytes : ValueOrder → List ℕ → List ℕ → List ℕ → Shed
run_bytes order stream pool cells = deliver_all (delivery order stream) (shed_made order stream pool) cells

-- ---- its end

-- 01: "Box 1 has stopped"
abbrev pub over : Shed → Bool
over S = (unit_at S.network.core.units 0).stopped

-- a total, with an assignment
pub record ShedReport : Type 0 where
  pub total : ℕ
  pub assignment : List ℕ

-- what box 1 reports
abbrev pub report_of : Shed → ShedReport
report_of S = let u = unit_at S.network.core.units 0 in record { total = u.bound; assignment = u.best }

-- ---- words of the statement

-- (3n - 1) × N
abbrev pub most : Instance → ℕ
most I = (3 * I.n - 1) * N I

-- how many packets of a list pass a test
unfoldable pub times : (Packet → Bool) → List Packet → ℕ
times t [] = 0
times t (p ∷ ps) = cond (t p) 1 0 + times t ps

-- 12 after the stop, 14 or 15
abbrev pub Honest : Bool → ℕ → Type 0
Honest ended r = ((r ≡ 12) × (ended ≡ true)) ⊎ ((r ≡ 14) ⊎ (r ≡ 15))

-- ---- what the bytes have to do with the messages

-- the cells in use hold the messages that wait, one after the other, and the units are the same
pub record Follows (S : Shed) (H : History) : Type 0 where
  pub units : S.network.core.units ≡ H.units
  pub used : S.network.used ≡ length H.waiting
  pub cells : take (message_size * length H.waiting) S.pool ≡ encode_all H.waiting

-- ---- one run

pub record Served (order : ValueOrder) (stream pool cells : List ℕ) : Type 0 where
  -- the byte run follows the run over messages, which is fed only the table and the list
  pub follows : Follows (run_bytes order stream pool cells) (run order (instance_of stream) cells)
  -- no beginning is written twice
  pub distinct : Distinct (written order stream cells)
  -- at most (3n - 1) × N deliveries are accepted, and with that many box 1 has stopped
  pub bounded : accepted_in (delivery order stream) (shed_made order stream pool) cells ≤ most (instance_of stream)
  pub ends : accepted_in (delivery order stream) (shed_made order stream pool) cells ≡ most (instance_of stream) → over (run_bytes order stream pool cells) ≡ true
  -- until then a message waits
  pub waits : over (run_bytes order stream pool cells) ≡ false → 1 ≤ (run_bytes order stream pool cells).network.used
  -- and one of them can be delivered: the pool never refuses all by 14
  pub progress : over (run_bytes order stream pool cells) ≡ false → (cell : ℕ) × (refusal_at order stream (run_bytes order stream pool cells) cell ≡ 0)
  -- once stopped it reports the least total, with an assignment that totals just that, or none where there is no assignment
  pub reported : over (run_bytes order stream pool cells) ≡ true → Reported (instance_of stream) (report_of (run_bytes order stream pool cells)).total (report_of (run_bytes order stream pool cells)).assignment
  -- which is the first with that total, in the order tried
  pub lotting : over (run_bytes order stream pool cells) ≡ true → LeastFirst order (instance_of stream) (report_of (run_bytes order stream pool cells)).total (report_of (run_bytes order stream pool cells)).assignment
      × Padded (instance_of stream).n (report_of (run_bytes order stream pool cells)).assignment
  -- what accepted deliveries handed over was sent, every message at most once
  pub handed : (t : Packet → Bool) → times t (run order (instance_of stream) cells).handed + times t (run order (instance_of stream) cells).waiting ≡ times t (run order (instance_of stream) cells).sent
  -- these messages, in this order, are the bytes that were handed over
  pub taken : handed_in (delivery order stream) (shed_made order stream pool) cells ≡ map packet_bytes (run order (instance_of stream) cells).handed
  -- the counts are exact
  pub records : value_of (run_bytes order stream pool cells).network.core.records ≡ length (written order stream cells)
  pub deliveries : value_of (run_bytes order stream pool cells).network.core.deliveries ≡ accepted_in (delivery order stream) (shed_made order stream pool) cells
  pub accepted : accepted_in (delivery order stream) (shed_made order stream pool) cells ≡ length (run order (instance_of stream) cells).handed
  -- no unit refuses another's packet: only 12 (after the stop), 14 and 15 are ever given
  pub honest : (cell : ℕ) → (refusal_at order stream (run_bytes order stream pool cells) cell ≡ 0) ⊎ Honest (over (run_bytes order stream pool cells)) (refusal_at order stream (run_bytes order stream pool cells) cell)

-- ---- two runs of one table

-- 02, job 9: "two sheds may differ in theirs"
pub record Demand3 (stream : List ℕ) (order : ValueOrder) (pool cells : List ℕ) (order' : ValueOrder) (pool' cells' : List ℕ) : Type 0 where
  pub one : Served order stream pool cells
  pub other : Served order' stream pool' cells'
  -- two sheds of one table report the same total
  pub agree : over (run_bytes order stream pool cells) ≡ true → over (run_bytes order' stream pool' cells') ≡ true
      → (report_of (run_bytes order stream pool cells)).total ≡ (report_of (run_bytes order' stream pool' cells')).total
  -- and, told one order, the same lotting
  pub same : order ≡ order' → over (run_bytes order stream pool cells) ≡ true → over (run_bytes order' stream pool' cells') ≡ true
      → (report_of (run_bytes order stream pool cells)).assignment ≡ (report_of (run_bytes order' stream pool' cells')).assignment
