-- WHAT THE BOXES PROMISE, stated: of every list of events, in either order of values, for a table that is accepted. About `make_out` and `step_out`, the
-- definitions that the contracts of `unit::make_by` and `unit::step_by` cite. Proved in Theorem.antt: `promised`, and beside it `all_stop`, `one_lotting` and
-- `bench_lotting`. Assumes nothing.
--     stopped_at, all_stopped      which boxes have stopped
--     most_accepted               the most packets that are accepted
--     Promised                   what holds after every list of events
use Rattle.std.specs.Prelude.{ℕ, suc, ◌+◌, ◌*◌, ◌-◌, ◌≤◌, ◌<◌, ◌≡◌, ◌⊎◌, Bool, true, false, cond, List, eqb}
use Rattle.base.specs.{Every.every, Members.In, Sums.sum_to}
use Rattle.table.specs.Stream.{units_of}
use Rattle.costs.specs.{declared.ValueOrder.ValueOrder, Instance.Instance, Instance.instance_of, Bounds.prefix_count, Least.LeastFirst, Least.Padded}
use Rattle.rules.specs.Units.{unit_at, Distinct}
use Rattle.boxes.specs.Boxes.{make_box, number_of, Boxes, answer_to, receiver_in, boxes}

-- ---- words of the statement

abbrev pub stopped_at : Boxes → ℕ → Bool
stopped_at B k = (unit_at B.units k).stopped

abbrev pub all_stopped : ℕ → Boxes → Bool
all_stopped n B = every (stopped_at B) n

-- The most packets that follow from one record of the unit at place k, of n units: its CPA going down and coming back, a request to each later unit and the
-- answer, and, where the next unit is the last, n - 1 solutions.
abbrev pub most_after : ℕ → ℕ → ℕ
most_after n k = cond (eqb (suc (suc k)) n) (n + 3) (2 * (n - k))

-- those of all prefixes, and n - 1 stops. No more than 01's (3n - 1) × N, and n - 1: `most-accepted` in Theorem.antt
abbrev pub most_accepted : Instance → ℕ
most_accepted I = sum_to (λ k. most_after I.n k * prefix_count I.dom (suc k)) (I.n - 1) + (I.n - 1)

-- ---- what holds after every list of events

pub record Promised (order : ValueOrder) (s : List ℕ) (events : List ℕ) : Type 0 where
  -- each box is made
  pub made : (k : ℕ) → k < units_of s → number_of (make_box order s k) ≡ 0
  -- no prefix is written twice. 01: "beginning"
  pub distinct : Distinct (boxes order s events).written
  -- so many packets are accepted at most, and with that many every box has stopped
  pub bounded : (boxes order s events).accepted ≤ most_accepted (instance_of s)
  pub ends : (boxes order s events).accepted ≡ most_accepted (instance_of s) → all_stopped (units_of s) (boxes order s events) ≡ true
  -- no box refuses a packet of another but by its own 12, once it has stopped
  pub honest : (bytes : List ℕ) → In bytes (boxes order s events).air
      → (number_of (answer_to order s (boxes order s events) bytes) ≡ 0)
      ⊎ ((number_of (answer_to order s (boxes order s events) bytes) ≡ 12) × (stopped_at (boxes order s events) (receiver_in bytes) ≡ true))
  -- until all have stopped a packet is in the air that its box accepts
  pub waits : all_stopped (units_of s) (boxes order s events) ≡ false → (bytes : List ℕ) × In bytes (boxes order s events).air × (number_of (answer_to order s (boxes order s events) bytes) ≡ 0)
  -- EVERY BOX THAT HAS STOPPED holds the least total, and of the assignments with that total the first in the order tried; or none, with best all zero
  pub lotting : (k : ℕ) → k < units_of s → stopped_at (boxes order s events) k ≡ true
      → LeastFirst order (instance_of s) (unit_at (boxes order s events).units k).bound (unit_at (boxes order s events).units k).best
      × Padded (units_of s) (unit_at (boxes order s events).units k).best
