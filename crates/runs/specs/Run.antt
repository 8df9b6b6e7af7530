-- A network of units over messages: making, a delivery, and a run, fed only the table and the list of cells. No byte is met here.
-- 01, 'Runs, for demand 3': "A run is a list of deliveries to a shed as making left it." Assumes nothing.
--     Pool                           what a pool is: the message at a cell, what is left without it, and with others put in
--     HistoryOf, by_decision, deliver_in, run_in   what has happened so far; a packet handed to its unit; a delivery and a list of them, over any pool
--     cells                          01's pool: the messages that wait, one after the other
--     begin, hand_over, run           making, one delivery, and a run, over 01's pool
--     written                        the records that a run writes
use Rattle.std.specs.Prelude.{ℕ, suc, Bool, cond, List, [], ◌∷◌, ◌++◌, leb, length, set, take, drop, replicate}
use Rattle.std.proofs.Math.Option.{Option, none, some}
use Rattle.base.specs.Limits.{pool_cells}
use Rattle.costs.specs.{declared.ValueOrder.ValueOrder, Instance.Instance, Instance.view_by, Instance.instance_of}
use Rattle.message.specs.Message.{Packet}
use Rattle.rules.specs.{declared.Unit.Unit, State.fresh, Step.Decision, Step.refused, Step.accepted, Step.Written, Step.assign, Send.packets}
pub use Rattle.rules.specs.Units.{unit_at, place_of, step_on}

-- ---- a pool of messages, by cell

pub record Pool (W : Type 0) : Type 0 where
  pub start : List Packet → W  -- as making leaves it
  pub at : W → ℕ → Option Packet  -- the message at a cell
  pub without : W → ℕ → W  -- that one taken out
  pub put : W → List Packet → Option W  -- others put in; none where they don't fit

-- What a run has led to: the units by place, the messages that wait, the records written, what was sent and what was handed over,
-- each oldest first.
pub record HistoryOf (W : Type 0) : Type 0 where
  pub units : List Unit
  pub waiting : W
  pub written : List Written
  pub sent : List Packet
  pub handed : List Packet

pub data DeliveryOf (W : Type 0) : Type 0 where
  refused_by : ℕ → DeliveryOf W
  delivered : HistoryOf W → DeliveryOf W

-- ---- a packet goes to its unit, whatever cell it is from: `put` says what waits once the unit's packets are put in

module _ {W : Type 0} where
  -- 01: "Box 1 has stopped"
  abbrev pub stopped : HistoryOf W → Bool
  stopped H = (unit_at H.units 0).stopped

  -- the packet p was handed over: its unit is u now, it sent ps and wrote ws, and w waits
  abbrev pub history_after : HistoryOf W → Packet → Unit → List Packet → List Written → W → HistoryOf W
  history_after H p u ps ws w = record { units = set H.units (place_of p) u; waiting = w; written = H.written ++ ws; sent = H.sent ++ ps; handed = H.handed ++ (p ∷ []) }

  -- 01, refusal 14: "outgoing messages don't fit the pool after the taken one left"
  abbrev pub if_fits : HistoryOf W → Packet → Unit → List Packet → List Written → Option W → DeliveryOf W
  if_fits H p u ps ws none = refused_by 14
  if_fits H p u ps ws (some w) = delivered (history_after H p u ps ws w)

  abbrev pub by_decision : Instance → HistoryOf W → Packet → (List Packet → Option W) → Decision → DeliveryOf W
  by_decision I H p put (refused r) = refused_by r
  by_decision I H p put (accepted u s ws) = if_fits H p u (packets I.n (place_of p) s) ws (put (packets I.n (place_of p) s))

  -- 01: "A refused delivery stays in the list and changes nothing"
  abbrev pub onward : HistoryOf W → DeliveryOf W → HistoryOf W
  onward H (refused_by r) = H
  onward H (delivered K) = K

-- ---- making and a delivery over a pool

module _ {W : Type 0} (L : Pool W) where
  abbrev pub begun_with : Instance → Decision → HistoryOf W
  begun_with I (refused r) = record { units = replicate 16 fresh; waiting = L.start []; written = []; sent = []; handed = [] }
  begun_with I (accepted u s ws) =
      let ps = packets I.n 0 s in
      record { units = set (replicate 16 fresh) 0 u; waiting = L.start ps; written = ws; sent = ps; handed = [] }

  -- 01, refusal 15: "no message at that cell"
  abbrev pub take_cell : ValueOrder → Instance → HistoryOf W → ℕ → Option Packet → DeliveryOf W
  take_cell order I H cell none = refused_by 15
  take_cell order I H cell (some p) = by_decision I H p (L.put (L.without H.waiting cell)) (step_on order I H.units p)

  -- 01, refusal 12: "(in the shed: unit 1) has stopped"
  abbrev pub deliver_in : ValueOrder → Instance → HistoryOf W → ℕ → DeliveryOf W
  deliver_in order I H cell = cond (stopped H) (refused_by 12) (take_cell order I H cell (L.at H.waiting cell))

  -- 01: "A run is a list of deliveries"
  unfoldable pub run_in : ValueOrder → Instance → HistoryOf W → List ℕ → HistoryOf W
  run_in order I H [] = H
  run_in order I H (c ∷ cs) = run_in order I (onward H (deliver_in order I H c)) cs

-- ---- 01's pool: "The pool is 1,024 cells"

abbrev pub first_of : List Packet → Option Packet
first_of [] = none
first_of (p ∷ ps) = some p

-- 01: "closes the gap by moving later cells down one, and adds what the step sends at the end"
abbrev pub cells : Pool (List Packet)
cells = record {
  start = λ ps. ps;
  at = λ ms c. first_of (drop c ms);
  without = λ ms c. take c ms ++ drop (suc c) ms;
  put = λ ms ps. cond (leb (length (ms ++ ps)) pool_cells) (some (ms ++ ps)) none;
}

abbrev pub History : Type 0
History = HistoryOf (List Packet)

-- 01: "Making unit 1 assigns"
unfoldable pub begin : ValueOrder → Instance → History
begin order I = begun_with cells I (assign (view_by order I 0) fresh)

abbrev pub hand_over : ValueOrder → Instance → History → ℕ → DeliveryOf (List Packet)
hand_over order I H cell = deliver_in cells order I H cell

unfoldable pub run : ValueOrder → Instance → List ℕ → History
run order I cs = run_in cells order I (begin order I) cs

-- 01: "Which ones a run writes, those of making included, follows from the rules above, fed only the table and the list."
abbrev pub written : ValueOrder → List ℕ → List ℕ → List Written
written order stream cells = (run order (instance_of stream) cells).written
