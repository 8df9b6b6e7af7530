-- `network::echoing::hear` meets its contract: the step's refusal, or what it sends added. Assumes nothing.
use Rattle.std.specs.Prelude.{◌≡◌, ℕ, ◌+◌, ◌≤◌, true, false, leb, get_or, replicate}
use borrow.Author.Tests.{le-leb, lt-leb}
use Rattle.runs.specs.Calls.{echo_by}
use mathlib.Core.Path.{ap, ◌∙◌}
use native.Mathlib.Omega.{arith}
use borrow.Author.Rules.{rules}
use lib.ListN.{length-replicate}
use Rattle.rules.specs.State.{empty_unit}
use Rattle.runs.specs.Code.{Stepped, stored_answer, stored_pool}
use Rattle.runs.proofs.CodeLaws.{own_first, own-most, hand-told, hand_sent, hear_refuses, hear_stores}
use Rattle.network.proofs.echoing.hear.Goals as goal
use Rattle.network.proofs.echoing.hear.Goals.{After-receiver-own, After-step-r}

-- the unit that the packet is for
first : (c : After-receiver-own) → 1 ≤ c.receiver-own.result
first c =
    let n = c.units_of in
    own_first c.args.order c.args.net.core c.args.stream.now c.requires.core n.result c.receiver-own.result c.args.packet.now n.ensures c.receiver-own.ensures.0

most : (c : After-receiver-own) → c.receiver-own.result ≤ 16
most c =
    let n = c.units_of in
    own-most c.args.order c.args.net.core c.args.stream.now c.requires.core n.result c.receiver-own.result c.args.packet.now n.ensures c.receiver-own.ensures.0

-- its step
told : (c : After-step-r) → let w = c.receiver-own in Stepped c.args.order c.args.stream.now w.result (get_or c.args.net.core.units c.from.result empty_unit) c.args.packet.now (replicate 1024 0) c.step-r.result c.step-r.new.out
told c =
    let n = c.units_of in
    let w = c.receiver-own in
    hand-told c.args.order c.args.net.core c.args.stream.now c.requires.core n.result w.result c.args.packet.now n.ensures w.ensures.0 (get_or c.args.net.core.units c.from.result empty_unit) (ap (λ (k : ℕ). get_or c.args.net.core.units k empty_unit) c.from.ensures) (replicate 1024 0) c.step-r.new.out c.step-r.result (omega (arith, length-replicate {A = ℕ} 1024 0)) c.step-r.ensures.0 c.step-r.ensures.1

pub overflow_sub-own : goal.overflow_sub-own
overflow_sub-own c = first (goal.at.overflow_sub-own c).After-receiver-own

pub bounds-net-from : goal.bounds-net-from
bounds-net-from c = omega (arith, c.from.ensures, most (goal.at.bounds-net-from c).After-receiver-own)

pub returns-then-r-ne0 : goal.returns-then-r-ne0
returns-then-r-ne0 c =
    let a = c.args in
    let n = c.units_of in
    let w = c.receiver-own in
    let s = c.step-r in
    hear_refuses a.order a.net a.stream.now a.pool.now c.requires n.result w.result a.packet.now n.ensures w.ensures.0 (get_or a.net.core.units c.from.result empty_unit) (ap (λ (k : ℕ). get_or a.net.core.units k empty_unit) c.from.ensures) (replicate 1024 0) s.new.out s.result (told (goal.at.returns-then-r-ne0 c).After-step-r) s.ensures.2 w.ensures.1 c.if-r-ne0.true

-- what it sends fits the pool, or not
stores : (c : After-step-r) → c.step-r.result.refusal ≡ 0
    → (stored_answer c.args.net c.args.net.used c.receiver-own.result c.step-r.result ≡ (echo_by c.args.order 0 c.args.net c.args.stream.now c.args.pool.now c.args.packet.now).answer)
    × (stored_pool c.args.pool.now c.args.net.used c.step-r.result c.step-r.new.out c.args.pool.now ≡ (echo_by c.args.order 0 c.args.net c.args.stream.now c.args.pool.now c.args.packet.now).pool)
stores c good =
    let a = c.args in
    let n = c.units_of in
    let w = c.receiver-own in
    let s = c.step-r in
    hear_stores a.order a.net a.stream.now a.pool.now c.requires n.result w.result a.packet.now n.ensures w.ensures.0 (get_or a.net.core.units c.from.result empty_unit) (ap (λ (k : ℕ). get_or a.net.core.units k empty_unit) c.from.ensures) (replicate 1024 0) s.new.out s.result (told c) s.ensures.2 w.ensures.1 good

pub returns-then-net-from-gt-POOL_CELLS : goal.returns-then-net-from-gt-POOL_CELLS
returns-then-net-from-gt-POOL_CELLS c =
    let f : leb (c.args.net.used + c.step-r.result.sent) 1024 ≡ false = lt-leb _ 1024 (omega (arith, c.from-2.ensures, c.if-net-from-gt-POOL_CELLS.true)) in
    let e = rw f at (stores (goal.at.returns-then-net-from-gt-POOL_CELLS c).After-step-r c.if-r-ne0.false) in
    (c.refused.ensures ∙ e.0, e.1)

pub add-requires : goal.add-requires
add-requires c =
    let a = c.args in
    let n = c.units_of in
    let w = c.receiver-own in
    let s = c.step-r in (
      record {
        few = omega (arith, c.requires.few);
        room = c.requires.room;
        sent = hand_sent a.order a.net.core a.stream.now c.requires.core n.result w.result a.packet.now n.ensures w.ensures.0 (get_or a.net.core.units c.from.result empty_unit) (ap (λ (k : ℕ). get_or a.net.core.units k empty_unit) c.from.ensures) (replicate 1024 0) s.new.out s.result (told (goal.at.add-requires c).After-step-r) s.ensures.2 w.ensures.1;
        buffer = search rules;
      },
      omega (arith, c.from-2.ensures, c.if-net-from-gt-POOL_CELLS.false),
    )

pub returns : goal.returns
returns c =
    let t : leb (c.args.net.used + c.step-r.result.sent) 1024 ≡ true = le-leb _ 1024 (omega (arith, c.from-2.ensures, c.if-net-from-gt-POOL_CELLS.false)) in
    let e = rw t at (stores (goal.at.returns c).After-step-r c.if-r-ne0.false) in
    (c.add.ensures.0 ∙ e.0, c.add.ensures.1 ∙ e.1)
