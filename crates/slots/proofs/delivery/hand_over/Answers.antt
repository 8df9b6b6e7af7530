-- `slots::delivery::hand_over` meets its contract: 9 in a cell not its own, the step's refusal, or what it sends placed. Assumes nothing.
use Rattle.std.specs.Prelude.{◌≡◌, ℕ, ◌+◌, ◌-◌, ◌*◌, ◌<◌, ◌≤◌, false, List, length, get_or, take, drop, replicate}
use mathlib.Core.Path.{sym, ap, ◌∙◌}
use native.Mathlib.Omega.{arith}
use lib.ListN.{length-replicate}
use Rattle.table.specs.StreamLaws.{accepted_units}
use Rattle.rules.specs.State.{empty_unit}
use Rattle.runs.specs.declared.Core.{Core}
use Rattle.runs.specs.Pool.{cell_of}
use Rattle.slots.specs.Slot.Laws.{used_fits}
use Rattle.table.specs.Stream.{units_of}
use Rattle.runs.specs.Calls.{core_after}
use Rattle.slots.specs.Bytes.{take_out}
use Rattle.slots.specs.Calls.{lent_refusal, is_stray, deliver_by}
use Rattle.slots.specs.Placing.{place_sent}
use Rattle.slots.specs.Code.{hand_first, hand-most, hand_stray, hand_refuses, hand_few, hand_stores, hand_passes, open_passes}
use borrow.Author.Rules.{rules}
use Rattle.slots.proofs.delivery.hand_over.Goals as goal
use Rattle.slots.proofs.delivery.hand_over.Goals.{Start, After-is_stray, After-step-r}

-- the cell is one of 300, and the part that is lent is its bytes
module _ (c : Start) where
  inside : c.args.cell < 300
  inside = omega (arith, c.requires.here, used_fits _ (accepted_units c.args.stream.now c.requires.sound.table).1)

  abbrev lent : List ℕ
  lent = take (64 * c.args.cell + 64 - 64 * c.args.cell) (drop (64 * c.args.cell) c.args.pool.now)

  stands : lent ≡ cell_of c.args.pool.now c.args.cell
  stands = let m : 64 * c.args.cell + 64 - 64 * c.args.cell ≡ 64 = omega arith in rw m

-- the unit is one of 16
module _ (c : After-is_stray) where
  first : 1 ≤ c.receiver-own.result
  first =
      let a = c.args in
      let n = c.units_of-n in
      let w = c.receiver-own in
      hand_first a.order a.core a.stream.now a.pool.now a.cell c.requires n.result w.result (lent (goal.at.After-is_stray c).Start) n.ensures w.ensures.0 (stands (goal.at.After-is_stray c).Start)

  most : c.receiver-own.result ≤ 16
  most =
      let a = c.args in
      let n = c.units_of-n in
      let w = c.receiver-own in
      hand-most a.order a.core a.stream.now a.pool.now a.cell c.requires n.result w.result (lent (goal.at.After-is_stray c).Start) n.ensures w.ensures.0 (stands (goal.at.After-is_stray c).Start)

-- the step of a message in its own cell
module _ (c : After-step-r) where
  home : is_stray c.args.stream.now c.receiver-own.result (lent (goal.at.After-step-r c).Start) c.args.cell ≡ false
  home = sym c.is_stray.ensures ∙ c.if-is_stray.false

  refuses : (c.step-r.result.refusal ≡ 0 → ⊥) → (record { refusal = c.step-r.result.refusal; core = c.args.core } ≡ (deliver_by c.args.order 0 c.args.core c.args.stream.now c.args.pool.now c.args.cell).answer) × (c.args.pool.now ≡ (deliver_by c.args.order 0 c.args.core c.args.stream.now c.args.pool.now c.args.cell).pool)
  refuses ne =
      let a = c.args in
      let n = c.units_of-n in
      let w = c.receiver-own in
      let t = c.step-r in
      hand_refuses a.order a.core a.stream.now a.pool.now a.cell c.requires n.result w.result (lent (goal.at.After-step-r c).Start) n.ensures w.ensures.0 (stands (goal.at.After-step-r c).Start) home (get_or a.core.units c.from.result empty_unit) (ap (λ (k : ℕ). get_or a.core.units k empty_unit) c.from.ensures) (replicate 1024 0) t.new.out t.result (omega (arith, length-replicate {A = ℕ} 1024 0)) t.ensures.0 t.ensures.1 ne

  few : c.step-r.result.sent ≤ 16
  few =
      let a = c.args in
      let n = c.units_of-n in
      let w = c.receiver-own in
      let t = c.step-r in
      hand_few a.order a.core a.stream.now a.pool.now a.cell c.requires n.result w.result (lent (goal.at.After-step-r c).Start) n.ensures w.ensures.0 (stands (goal.at.After-step-r c).Start) home (get_or a.core.units c.from.result empty_unit) (ap (λ (k : ℕ). get_or a.core.units k empty_unit) c.from.ensures) (replicate 1024 0) t.new.out t.result (omega (arith, length-replicate {A = ℕ} 1024 0)) t.ensures.0 t.ensures.1 t.ensures.2 w.ensures.1

  stores : c.step-r.result.refusal ≡ 0 → (record { refusal = 0; core = core_after c.args.core c.receiver-own.result c.step-r.result.unit c.step-r.result.records } ≡ (deliver_by c.args.order 0 c.args.core c.args.stream.now c.args.pool.now c.args.cell).answer)
      × (place_sent (units_of c.args.stream.now) (take_out c.args.pool.now c.args.cell) c.step-r.new.out 0 c.step-r.result.sent ≡ (deliver_by c.args.order 0 c.args.core c.args.stream.now c.args.pool.now c.args.cell).pool)
  stores e =
      let a = c.args in
      let n = c.units_of-n in
      let w = c.receiver-own in
      let t = c.step-r in
      hand_stores a.order a.core a.stream.now a.pool.now a.cell c.requires n.result w.result (lent (goal.at.After-step-r c).Start) n.ensures w.ensures.0 (stands (goal.at.After-step-r c).Start) home (get_or a.core.units c.from.result empty_unit) (ap (λ (k : ℕ). get_or a.core.units k empty_unit) c.from.ensures) (replicate 1024 0) t.new.out t.result (omega (arith, length-replicate {A = ℕ} 1024 0)) t.ensures.0 t.ensures.1 t.ensures.2 w.ensures.1 e

  passes : c.step-r.result.refusal ≡ 0 → (left : List ℕ) → length left ≡ length c.args.pool.now
      → lent_refusal c.args.order (core_after c.args.core c.receiver-own.result c.step-r.result.unit c.step-r.result.records) c.args.stream.now left ≡ 0
  passes e left same =
      let a = c.args in
      let n = c.units_of-n in
      let w = c.receiver-own in
      let t = c.step-r in
      hand_passes a.order a.core a.stream.now a.pool.now a.cell c.requires n.result w.result (lent (goal.at.After-step-r c).Start) n.ensures w.ensures.0 (stands (goal.at.After-step-r c).Start) home (get_or a.core.units c.from.result empty_unit) (ap (λ (k : ℕ). get_or a.core.units k empty_unit) c.from.ensures) (replicate 1024 0) t.new.out t.result (omega (arith, length-replicate {A = ℕ} 1024 0)) t.ensures.0 t.ensures.1 t.ensures.2 w.ensures.1 e left same

pub overflow_mul-at : goal.overflow_mul-at
overflow_mul-at c = let l = inside (goal.at.overflow_mul-at c).Start in search rules

pub overflow_add-end : goal.overflow_add-end
overflow_add-end c = let l = inside (goal.at.overflow_add-end c).Start in search rules

pub slice_bounds-receiver-end : goal.slice_bounds-receiver-end
slice_bounds-receiver-end c = let l = inside (goal.at.slice_bounds-receiver-end c).Start in let r = c.requires.room in search rules

pub slice_bounds-is_stray-end : goal.slice_bounds-is_stray-end
slice_bounds-is_stray-end c = let l = inside (goal.at.slice_bounds-is_stray-end c).Start in let r = c.requires.room in search rules

pub returns-then-is_stray : goal.returns-then-is_stray
returns-then-is_stray c =
    let past = goal.at.returns-then-is_stray c in
    let a = c.args in
    let n = c.units_of-n in
    let w = c.receiver-own in
    let e = hand_stray a.order a.core a.stream.now a.pool.now a.cell c.requires n.result w.result (lent past.Start) n.ensures w.ensures.0 (stands past.Start) (sym c.is_stray.ensures ∙ c.if-is_stray.true) in
    (c.refused.ensures ∙ e.0, e.1, rw c.refused.ensures (open_passes a.order a.core a.stream.now a.pool.now a.cell c.requires))

pub overflow_sub-own : goal.overflow_sub-own
overflow_sub-own c = first (goal.at.overflow_sub-own c).After-is_stray

pub bounds-core-from : goal.bounds-core-from
bounds-core-from c = let l = most (goal.at.bounds-core-from c).After-is_stray in omega (arith, c.from.ensures)

pub slice_bounds-step-end : goal.slice_bounds-step-end
slice_bounds-step-end c = let l = inside (goal.at.slice_bounds-step-end c).Start in let r = c.requires.room in search rules

pub returns-then-r-ne0 : goal.returns-then-r-ne0
returns-then-r-ne0 c =
    let a = c.args in
    let e = refuses (goal.at.returns-then-r-ne0 c).After-step-r c.if-r-ne0.true in
    (e.0, e.1, open_passes a.order a.core a.stream.now a.pool.now a.cell c.requires)

pub zero_cell-requires : goal.zero_cell-requires
zero_cell-requires c = (inside (goal.at.zero_cell-requires c).Start, c.requires.room)

pub place_all-requires : goal.place_all-requires
place_all-requires c =
    let f = few (goal.at.place_all-requires c).After-step-r in
    let l : length c.step-r.new.out ≡ 1024 = search rules in
    omega (arith, c.from-2.ensures, f, l)

pub returns : goal.returns
returns c =
    let past = goal.at.returns c in
    let t = c.step-r in
    let n = c.units_of-n in
    let e = stores past.After-step-r c.if-r-ne0.false in (
      ap (λ (x : Core). record { refusal = 0; core = x }) c.advance.ensures ∙ e.0,
      (rw c.from-2.ensures at c.place_all.ensures) ∙ ap (λ (x : List ℕ). place_sent n.result x t.new.out 0 t.result.sent) c.zero_cell.ensures ∙ rw n.ensures e.1,
      rw c.advance.ensures (passes past.After-step-r c.if-r-ne0.false _ (search rules)),
    )
