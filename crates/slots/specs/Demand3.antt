-- DEMAND 3 over 02's pool, stated: one theorem over every list of deliveries to a network of an accepted table, about the very definitions that the contracts of
-- `slots::make_by` and `slots::deliver_by` cite. 02, job 4: "Demand 3 holds over this pool too, a message waiting while its cell isn't all zero, although overwritten
-- messages never arrive, and 14 is shown never to occur here." Its proof is `demand3` of Theorem.antt. Assumes nothing.
--     Shed, shed_after, run_bytes     the run on bytes: units, counts and the pool after making and a list of cells
--     Follows                       what the bytes have to do with the run over messages (Run.antt)
--     Served                        what holds of one run
--     Demand3                       two runs of one table
-- What it counts, and what a report is, are those of runs/specs/Demand3.
use Rattle.std.specs.Prelude.{ℕ, ◌+◌, ◌≤◌, ◌<◌, ◌≡◌, ◌⊎◌, Bool, true, false, List, map, length}
use Rattle.base.specs.Members.{Every}
use Rattle.costs.specs.declared.ValueOrder.{ValueOrder}
use Rattle.costs.specs.{Instance.instance_of, Gather.sizes_in, Bounds.Reported, Least.LeastFirst, Least.Padded}
use Rattle.message.specs.Message.{Packet}
use Rattle.rules.specs.{Send.packet_bytes, Units.unit_at, Units.Distinct}
use Rattle.runs.specs.{declared.Core.Core, Count.value_of, Pool.cell_of, Deliveries.Delivery, Deliveries.deliver_all, Deliveries.accepted_in, Deliveries.handed_in}
use Rattle.runs.specs.Demand3.{ShedReport, most, times}
use Rattle.slots.specs.{Slot.used_slots, Newer.newer_of, Run.Lost, Run.History, Run.waiting_in, Run.at_cell, Run.run, Run.written, Bytes.slot_bytes, Bytes.is_empty, Calls.Result, Calls.make_of, Calls.deliver_of}

-- ---- the run on bytes

-- 01: "shed": units and counts, and the bytes of the pool
pub record Shed : Type 0 where
  pub core : Core
  pub pool : List ℕ

abbrev pub shed_of : Result → Shed
shed_of r = record { core = r.answer.core; pool = r.pool }

-- 01: "A table is accepted when making a shed of it isn't refused."
abbrev pub Made : ValueOrder → List ℕ → List ℕ → Type 0
Made order stream pool = (make_of order stream pool).answer.refusal ≡ 0

-- as making leaves it
abbrev pub shed_made : ValueOrder → List ℕ → List ℕ → Shed
shed_made order stream pool = shed_of (make_of order stream pool)

abbrev pub shed_after : ValueOrder → List ℕ → Shed → ℕ → Shed
shed_after order stream S cell = shed_of (deliver_of order S.core stream S.pool cell)

-- the refusal of the next delivery, 0 where it is accepted
abbrev pub refusal_at : ValueOrder → List ℕ → Shed → ℕ → ℕ
refusal_at order stream S cell = (deliver_of order S.core stream S.pool cell).answer.refusal

abbrev pub delivery : ValueOrder → List ℕ → Delivery Shed
delivery order stream = record { refusal = refusal_at order stream; after = shed_after order stream; bytes = λ (S : Shed) (cell : ℕ). cell_of S.pool cell }

unfoldable pub run_bytes : ValueOrder → List ℕ → List ℕ → List ℕ → Shed
run_bytes order stream pool cells = deliver_all (delivery order stream) (shed_made order stream pool) cells

-- 01: "Box 1 has stopped"
abbrev pub over : Shed → Bool
over S = (unit_at S.core.units 0).stopped

-- what box 1 reports
abbrev pub report_of : Shed → ShedReport
report_of S = let u = unit_at S.core.units 0 in record { total = u.bound; assignment = u.best }

-- 12 after the stop, or 15
abbrev pub Honest : Bool → ℕ → Type 0
Honest ended r = ((r ≡ 12) × (ended ≡ true)) ⊎ (r ≡ 15)

-- ---- what the bytes have to do with the messages

-- the units are the same, and each cell that n units use has the bytes of its message, or zeros
pub record Follows (n : ℕ) (S : Shed) (H : History) : Type 0 where
  pub units : S.core.units ≡ H.units
  pub cells : (c : ℕ) → c < used_slots n → cell_of S.pool c ≡ slot_bytes (at_cell H.waiting.cells c)

-- ---- one run

-- of a message and the one that overwrote it, `newer` hands back the fresh one
abbrev pub Fresher : ℕ → List ℕ → Lost Packet → Type 0
Fresher n sizes o = newer_of n sizes (packet_bytes o.fresh) (packet_bytes o.older) ≡ packet_bytes o.fresh

pub record Served (order : ValueOrder) (stream pool cells : List ℕ) : Type 0 where
  -- the byte run follows the run over messages, which is fed only the table and the list
  pub follows : Follows (instance_of stream).n (run_bytes order stream pool cells) (run order (instance_of stream) cells)
  -- no beginning is written twice
  pub distinct : Distinct (written order stream cells)
  -- at most (3n - 1) × N deliveries are accepted, and with that many box 1 has stopped
  pub bounded : accepted_in (delivery order stream) (shed_made order stream pool) cells ≤ most (instance_of stream)
  pub ends : accepted_in (delivery order stream) (shed_made order stream pool) cells ≡ most (instance_of stream) → over (run_bytes order stream pool cells) ≡ true
  -- until then a message waits; 02: "while its cell isn't all zero"
  pub waits : over (run_bytes order stream pool cells) ≡ false → (cell : ℕ) × (is_empty (instance_of stream).n (run_bytes order stream pool cells).pool cell ≡ false)
  -- and each that waits can be delivered
  pub progress : over (run_bytes order stream pool cells) ≡ false → (cell : ℕ) → is_empty (instance_of stream).n (run_bytes order stream pool cells).pool cell ≡ false
      → refusal_at order stream (run_bytes order stream pool cells) cell ≡ 0
  -- once stopped it reports the least total, with an assignment that totals just that, or none where there is no assignment
  pub reported : over (run_bytes order stream pool cells) ≡ true → Reported (instance_of stream) (report_of (run_bytes order stream pool cells)).total (report_of (run_bytes order stream pool cells)).assignment
  -- which is the first with that total, in the order tried
  pub lotting : over (run_bytes order stream pool cells) ≡ true → LeastFirst order (instance_of stream) (report_of (run_bytes order stream pool cells)).total (report_of (run_bytes order stream pool cells)).assignment
      × Padded (instance_of stream).n (report_of (run_bytes order stream pool cells)).assignment
  -- what accepted deliveries handed over was sent, every message at most once; 02: "overwritten messages never arrive"
  pub handed : (t : Packet → Bool)
      → times t (run order (instance_of stream) cells).handed + times t (waiting_in (run order (instance_of stream) cells).waiting.cells) + times t (map (λ (o : Lost Packet). o.older) (run order (instance_of stream) cells).waiting.overwritten)
      ≡ times t (run order (instance_of stream) cells).sent
  -- and what overwrites a message is not older than it
  pub fresher : Every (Fresher (instance_of stream).n (sizes_in stream)) (run order (instance_of stream) cells).waiting.overwritten
  -- these messages, in this order, are the bytes that were handed over
  pub taken : handed_in (delivery order stream) (shed_made order stream pool) cells ≡ map packet_bytes (run order (instance_of stream) cells).handed
  -- the counts are exact
  pub records : value_of (run_bytes order stream pool cells).core.records ≡ length (written order stream cells)
  pub deliveries : value_of (run_bytes order stream pool cells).core.deliveries ≡ accepted_in (delivery order stream) (shed_made order stream pool) cells
  pub accepted : accepted_in (delivery order stream) (shed_made order stream pool) cells ≡ length (run order (instance_of stream) cells).handed
  -- no unit refuses another's packet, each stands in its own cell, and 14 never occurs: only 12 (after the stop) and 15 are ever given
  pub honest : (cell : ℕ) → (refusal_at order stream (run_bytes order stream pool cells) cell ≡ 0) ⊎ Honest (over (run_bytes order stream pool cells)) (refusal_at order stream (run_bytes order stream pool cells) cell)

-- ---- two runs of one table

-- 02, job 9: "two sheds may differ in theirs"
pub record Demand3 (stream : List ℕ) (order : ValueOrder) (pool cells : List ℕ) (order' : ValueOrder) (pool' cells' : List ℕ) : Type 0 where
  pub one : Served order stream pool cells
  pub other : Served order' stream pool' cells'
  -- two sheds of one table report the same total
  pub agree : over (run_bytes order stream pool cells) ≡ true → over (run_bytes order' stream pool' cells') ≡ true
      → (report_of (run_bytes order stream pool cells)).total ≡ (report_of (run_bytes order' stream pool' cells')).total
  -- and, told one order, the same lotting
  pub same : order ≡ order' → over (run_bytes order stream pool cells) ≡ true → over (run_bytes order' stream pool' cells') ≡ true
      → (report_of (run_bytes order stream pool cells)).assignment ≡ (report_of (run_bytes order' stream pool' cells')).assignment
