-- The checks of a delivery, one at a time, in the order of its refusals; the call by what they give; and one that was refused. By the definitions' tests. Assumes nothing.
use Rattle.std.specs.Prelude.{◌≡◌, ℕ, zero, suc, ◌<◌, ◌≤◌, Bool, true, false, cond, ◌≢◌, List, length}
use Rattle.std.specs.Prelude.{refl}
use Rattle.std.proofs.Common.{sym, ◌∙◌, lt-ltb, le-ltb}
use Rattle.std.proofs.Math.Path.{ap}
use Rattle.base.specs.Refusal.{or_else}
use Rattle.table.specs.Stream.{units_of}
use Rattle.costs.specs.declared.ValueOrder.{ValueOrder}
use Rattle.rules.specs.Step.{Decision, refused, accepted}
use Rattle.rules.specs.Units.{unit_at}
use Rattle.runs.specs.declared.Core.{Core}
use Rattle.runs.specs.Pool.{cell_of}
use Rattle.runs.specs.Calls.{core_refusal, receiver_of, step_from8}
use Rattle.slots.specs.Slot.{slot_pool_size}
use Rattle.slots.specs.Bytes.{is_empty}
use Rattle.slots.specs.Calls.{Result, refused_with, lent_refusal, cell_refusal, deliver_refusal, is_stray, stored, deliver_by, deliver_of}

-- what is lent, whatever cell is named
module _ (order : ValueOrder) (core : Core) (s pool : List ℕ) where
  pub check_room : length pool < slot_pool_size → 13 ≡ lent_refusal order core s pool
  unfolding lent_refusal
  check_room l = rw (lt-ltb (length pool) slot_pool_size l)

  pub check_core : slot_pool_size ≤ length pool → core_refusal order core s ≡ lent_refusal order core s pool
  unfolding lent_refusal
  check_core room = rw (le-ltb (length pool) slot_pool_size room)

  pub lent_passes : slot_pool_size ≤ length pool → core_refusal order core s ≡ 0 → lent_refusal order core s pool ≡ 0
  lent_passes room sound = sym (check_core room) ∙ sound

-- and the cell
module _ (core : Core) (s pool : List ℕ) (cell : ℕ) where
  pub check_stopped : (unit_at core.units 0).stopped ≡ true → 12 ≡ cell_refusal core s pool cell
  unfolding cell_refusal
  check_stopped e = rw e

  module _ (running : (unit_at core.units 0).stopped ≡ false) where
    pub check_empty : is_empty (units_of s) pool cell ≡ true → 15 ≡ cell_refusal core s pool cell
    unfolding cell_refusal
    check_empty e = rw (running, e)

    pub check_none : is_empty (units_of s) pool cell ≡ false → 0 ≡ cell_refusal core s pool cell
    unfolding cell_refusal
    check_none e = rw (running, e)

module _ (order : ValueOrder) (core : Core) (s pool : List ℕ) (cell : ℕ) where
  -- a refusal ends it, and without one it goes on
  pub lent-refused : (k : ℕ) → suc k ≡ lent_refusal order core s pool → deliver_of order core s pool cell ≡ refused_with core pool (suc k)
  unfolding deliver_of deliver_refusal
  lent-refused k e = ap (λ y. deliver_by order (or_else y (cell_refusal core s pool cell)) core s pool cell) (sym e)

  module _ (passes : lent_refusal order core s pool ≡ 0) where
    by_cell : deliver_of order core s pool cell ≡ deliver_by order (cell_refusal core s pool cell) core s pool cell
    unfolding deliver_of deliver_refusal
    by_cell = ap (λ y. deliver_by order (or_else y (cell_refusal core s pool cell)) core s pool cell) passes

    pub cell_refused : (k : ℕ) → suc k ≡ cell_refusal core s pool cell → deliver_of order core s pool cell ≡ refused_with core pool (suc k)
    cell_refused k e = by_cell ∙ ap (λ y. deliver_by order y core s pool cell) (sym e)

    pub deliver_goes : 0 ≡ cell_refusal core s pool cell → deliver_of order core s pool cell ≡ deliver_by order 0 core s pool cell
    deliver_goes e = by_cell ∙ ap (λ y. deliver_by order y core s pool cell) (sym e)

  -- refused: all is as lent
  pub refused_as_lent : (deliver_of order core s pool cell).answer.refusal ≢ 0 → deliver_of order core s pool cell ≡ refused_with core pool (deliver_of order core s pool cell).answer.refusal
  unfolding deliver_of
  refused_as_lent = by_checks (deliver_refusal order core s pool cell)
    where
      own : ℕ
      own = receiver_of (units_of s) (cell_of pool cell)

      by_step : (o : Decision) → (stored core pool cell (units_of s) own o).answer.refusal ≢ 0 → stored core pool cell (units_of s) own o ≡ refused_with core pool (stored core pool cell (units_of s) own o).answer.refusal
      by_step (refused r) ne = refl
      by_step (accepted u m ws) ne = absurd (ne refl)

      by_place : (t : Bool) (r : Result) → (r.answer.refusal ≢ 0 → r ≡ refused_with core pool r.answer.refusal)
          → (cond t (refused_with core pool 9) r).answer.refusal ≢ 0 → cond t (refused_with core pool 9) r ≡ refused_with core pool (cond t (refused_with core pool 9) r).answer.refusal
      by_place true r e ne = refl
      by_place false r e ne = e ne

      by_checks : (r : ℕ) → (deliver_by order r core s pool cell).answer.refusal ≢ 0 → deliver_by order r core s pool cell ≡ refused_with core pool (deliver_by order r core s pool cell).answer.refusal
      by_checks zero ne = by_place (is_stray s own (cell_of pool cell) cell) (stored core pool cell (units_of s) own (step_from8 order s core.units own (cell_of pool cell))) (by_step (step_from8 order s core.units own (cell_of pool cell))) ne
      by_checks (suc r) ne = refl
