-- `network::delivery::hand_over` meets its contract: the step's refusal, or what it sends stored. Assumes nothing.
use Rattle.std.specs.Prelude.{◌≡◌, ℕ, ◌+◌, ◌-◌, ◌*◌, ◌≤◌, List, get_or, take, drop, replicate}
use mathlib.Core.Path.{ap, ◌∙◌}
use native.Mathlib.Omega.{arith}
use borrow.Author.Rules.{rules}
use lib.ListN.{length-replicate}
use Rattle.rules.specs.State.{empty_unit}
use Rattle.runs.specs.Pool.{cell_of}
use Rattle.runs.specs.Code.{Stepped}
use Rattle.runs.proofs.CodeLaws.{own_first, own-most, hand-told, hand_sent, hand_refuses, hand_stores}
use Rattle.network.proofs.delivery.hand_over.Goals as goal
use Rattle.network.proofs.delivery.hand_over.Goals.{Start, After-receiver-own, After-step-r}

-- the message
abbrev bytes : Start → List ℕ
bytes c = take (64 * c.args.cell + 64 - 64 * c.args.cell) (drop (64 * c.args.cell) c.args.pool.now)

stands : (c : Start) → bytes c ≡ cell_of c.args.pool.now c.args.cell
stands c = let m : 64 * c.args.cell + 64 - 64 * c.args.cell ≡ 64 = omega arith in rw m

-- the unit that it is for
first : (c : After-receiver-own) → 1 ≤ c.receiver-own.result
first c =
    let n = c.units_of in
    own_first c.args.order c.args.net.core c.args.stream.now c.requires.passed.core n.result c.receiver-own.result (bytes (goal.at.After-receiver-own c).Start) n.ensures c.receiver-own.ensures.0

most : (c : After-receiver-own) → c.receiver-own.result ≤ 16
most c =
    let n = c.units_of in
    own-most c.args.order c.args.net.core c.args.stream.now c.requires.passed.core n.result c.receiver-own.result (bytes (goal.at.After-receiver-own c).Start) n.ensures c.receiver-own.ensures.0

-- its step
told : (c : After-step-r) → let w = c.receiver-own in Stepped c.args.order c.args.stream.now w.result (get_or c.args.net.core.units c.from.result empty_unit) (bytes (goal.at.After-step-r c).Start) (replicate 1024 0) c.step-r.result c.step-r.new.out
told c =
    let n = c.units_of in
    let w = c.receiver-own in
    hand-told c.args.order c.args.net.core c.args.stream.now c.requires.passed.core n.result w.result (bytes (goal.at.After-step-r c).Start) n.ensures w.ensures.0 (get_or c.args.net.core.units c.from.result empty_unit) (ap (λ (k : ℕ). get_or c.args.net.core.units k empty_unit) c.from.ensures) (replicate 1024 0) c.step-r.new.out c.step-r.result (omega (arith, length-replicate {A = ℕ} 1024 0)) c.step-r.ensures.0 c.step-r.ensures.1

pub overflow_sub-own : goal.overflow_sub-own
overflow_sub-own c = first (goal.at.overflow_sub-own c).After-receiver-own

pub bounds-net-from : goal.bounds-net-from
bounds-net-from c = omega (arith, c.from.ensures, most (goal.at.bounds-net-from c).After-receiver-own)

pub returns-then-r-ne0 : goal.returns-then-r-ne0
returns-then-r-ne0 c =
    let past = goal.at.returns-then-r-ne0 c in
    let a = c.args in
    let n = c.units_of in
    let w = c.receiver-own in
    let s = c.step-r in
    hand_refuses a.order a.net a.stream.now a.pool.now c.requires.passed n.result w.result (bytes past.Start) n.ensures w.ensures.0 (get_or a.net.core.units c.from.result empty_unit) (ap (λ (k : ℕ). get_or a.net.core.units k empty_unit) c.from.ensures) (replicate 1024 0) s.new.out s.result (told past.After-step-r) s.ensures.2 w.ensures.1 a.cell c.requires.here (stands past.Start) c.if-r-ne0.true

pub store-requires : goal.store-requires
store-requires c =
    let past = goal.at.store-requires c in
    let a = c.args in
    let n = c.units_of in
    let w = c.receiver-own in
    let s = c.step-r in (
      c.requires.here,
      c.requires.passed.few,
      record {
        few = omega (arith, c.requires.passed.few);
        room = c.requires.passed.room;
        sent = hand_sent a.order a.net.core a.stream.now c.requires.passed.core n.result w.result (bytes past.Start) n.ensures w.ensures.0 (get_or a.net.core.units c.from.result empty_unit) (ap (λ (k : ℕ). get_or a.net.core.units k empty_unit) c.from.ensures) (replicate 1024 0) s.new.out s.result (told past.After-step-r) s.ensures.2 w.ensures.1;
        buffer = search rules;
      },
    )

pub returns : goal.returns
returns c =
    let past = goal.at.returns c in
    let a = c.args in
    let n = c.units_of in
    let w = c.receiver-own in
    let s = c.step-r in
    let e = hand_stores a.order a.net a.stream.now a.pool.now c.requires.passed n.result w.result (bytes past.Start) n.ensures w.ensures.0 (get_or a.net.core.units c.from.result empty_unit) (ap (λ (k : ℕ). get_or a.net.core.units k empty_unit) c.from.ensures) (replicate 1024 0) s.new.out s.result (told past.After-step-r) s.ensures.2 w.ensures.1 a.cell c.requires.here (stands past.Start) c.if-r-ne0.false in
    (c.store.ensures.0 ∙ e.0, c.store.ensures.1 ∙ e.1)
