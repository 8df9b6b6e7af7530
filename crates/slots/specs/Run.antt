-- 02's pool over messages, and a run over it. Units, a delivery and what a run leads to are those of runs/specs/Run, for any pool; here is the pool.
-- Assumes nothing.
--     at_cell, waiting_in                         cells, and the messages in them
--     place, overwritten_by                      others put in, and what they overwrite
--     Slots, slots                              the pool
--     begin, run, written                       making and a run over it
use Rattle.std.specs.Prelude.{ℕ, List, [], ◌∷◌, ◌++◌, get_or, set, replicate}
use Rattle.std.proofs.Math.Option.{Option, none, some}
use Rattle.costs.specs.{declared.ValueOrder.ValueOrder, Instance.Instance, Instance.view_by, Instance.instance_of}
use Rattle.message.specs.Message.{Packet}
use Rattle.rules.specs.{State.fresh, Step.Written, Step.assign}
use Rattle.runs.specs.Run.{Pool, HistoryOf, begun_with, run_in}
use Rattle.slots.specs.Slot.{used_slots, slot_of}

-- ---- cells, each with a message or none

module _ {A : Type 0} where
  abbrev pub at_cell : List (Option A) → ℕ → Option A
  at_cell l c = get_or l c none

  -- none or one
  abbrev pub listed : Option A → List A
  listed none = []
  listed (some x) = x ∷ []

  -- the messages that wait, by cell
  unfoldable pub waiting_in : List (Option A) → List A
  waiting_in [] = []
  waiting_in (x ∷ l) = listed x ++ waiting_in l

-- a message that was overwritten, and by which
pub record Lost (A : Type 0) : Type 0 where
  pub older : A
  pub fresh : A

abbrev pub lost_to : {A : Type 0} → Option A → A → List (Lost A)
lost_to none x = []
lost_to (some y) x = record { older = y; fresh = x } ∷ []

-- messages that go to the cell `at` says, one after the other
module _ {A : Type 0} (at : A → ℕ) where
  -- 02: "A fresh message overwrites the older one in its cell"
  unfoldable pub place : List (Option A) → List A → List (Option A)
  place l [] = l
  place l (x ∷ xs) = place (set l (at x) (some x)) xs

  -- those that are overwritten
  unfoldable pub overwritten_by : List (Option A) → List A → List (Lost A)
  overwritten_by l [] = []
  overwritten_by l (x ∷ xs) = lost_to (at_cell l (at x)) x ++ overwritten_by (set l (at x) (some x)) xs

-- ---- the pool

-- the cells that n units use, and the messages that never arrive, oldest first
pub record Slots : Type 0 where
  pub cells : List (Option Packet)
  pub overwritten : List (Lost Packet)

-- with others put in
abbrev pub placed : ℕ → Slots → List Packet → Slots
placed n w ps = record { cells = place (slot_of n) w.cells ps; overwritten = w.overwritten ++ overwritten_by (slot_of n) w.cells ps }

-- 02: "n units use the first (n-1) × (n+4), which making the shed zeroes"
abbrev pub blank : ℕ → Slots
blank n = record { cells = replicate (used_slots n) none; overwritten = [] }

-- 02: "Keep one cell for each sender, receiver and kind": all that is sent fits
abbrev pub slots : ℕ → Pool Slots
slots n = record {
  start = λ ps. placed n (blank n) ps;
  at = λ w c. at_cell w.cells c;
  without = λ w c. record { cells = set w.cells c none; overwritten = w.overwritten };
  put = λ w ps. some (placed n w ps);
}

abbrev pub History : Type 0
History = HistoryOf Slots

unfoldable pub begin : ValueOrder → Instance → History
begin order I = begun_with (slots I.n) I (assign (view_by order I 0) fresh)

unfoldable pub run : ValueOrder → Instance → List ℕ → History
run order I cs = run_in (slots I.n) order I (begin order I) cs

-- the records of a run, those of making included
abbrev pub written : ValueOrder → List ℕ → List ℕ → List Written
written order stream cells = (run order (instance_of stream) cells).written
