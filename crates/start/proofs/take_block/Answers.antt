-- `take_block` meets its contract: each refusal by its test, and an accepted block as the calls below it say. Assumes nothing.
use Rattle.std.proofs.Common.{◌≡◌, ap, ◌∙◌, arith, rules, ◌<◌, ◌^◌, ◌%◌, cond, length, Ok}
use Rattle.std.proofs.lemmas.Result.{err_from_is_err_and}
use Rattle.start.specs.declared.Start.{Start}
use Rattle.start.specs.Block.{last_refusal, start_refusal, one_more, start_after}
use Rattle.start.specs.Answers.{payload_small, unless_ok, unless_err, refused_room, refused_late, refused_block, by_last, Gives, refuses, accepts}
use Rattle.start.proofs.take_block.Goals as goal
use Rattle.start.proofs.take_block.Goals.{After-check_last, After-keep_bytes-count}

-- what the stream's end tells is the refusal
by_end : (c : After-check_last) → let a = c.args in
    start_refusal a.state.now a.block.now a.last (length a.costs.now) ≡ cond a.last (last_refusal a.state.now.own c.read_bytes-reader.result) 0
by_end c =
    let a = c.args in
    let p = c.in_ok-payload.ensures.ok in
    by_last a.state.now a.block.now a.last (length a.costs.now) c.if-costs-lt-COSTS_SIZE.false c.if-state-ge-MOST_BLOCKS.false p.0 c.read_bytes-reader.result (rw p.1 at c.read_bytes-reader.ensures)

pub returns-then-costs-lt-COSTS_SIZE : goal.returns-then-costs-lt-COSTS_SIZE
returns-then-costs-lt-COSTS_SIZE c =
    let a = c.args in
    rw c.number.ensures (refuses a.state.now a.block.now a.last a.costs.now 13 (refused_room a.state.now a.block.now a.last (length a.costs.now) c.if-costs-lt-COSTS_SIZE.true) (λ z. omega arith))

pub returns-then-state-ge-MOST_BLOCKS : goal.returns-then-state-ge-MOST_BLOCKS
returns-then-state-ge-MOST_BLOCKS c =
    let a = c.args in
    rw c.number-then-state-ge-MOST_BLOCKS.ensures
    (refuses a.state.now a.block.now a.last a.costs.now 1 (refused_late a.state.now a.block.now a.last (length a.costs.now) c.if-costs-lt-COSTS_SIZE.false c.if-state-ge-MOST_BLOCKS.true) (λ z. omega arith))

pub returns-in_err-payload : goal.returns-in_err-payload
returns-in_err-payload c =
    let a = c.args in
    let p = err_from_is_err_and c.from_residual.result c.from_residual.ensures.1 in
    let x = c.in_err-payload.field-0.0 in
    let e = c.in_err-payload.ensures.err in
    let some : x ≡ 0 → ⊥ = λ z. omega arith in
    rw (p.1, p.2)
    (refuses a.state.now a.block.now a.last a.costs.now x (refused_block a.state.now a.block.now a.last (length a.costs.now) c.if-costs-lt-COSTS_SIZE.false c.if-state-ge-MOST_BLOCKS.false x e.0 some) some)

pub returns-in_err-check_last : goal.returns-in_err-check_last
returns-in_err-check_last c =
    let a = c.args in
    let p = err_from_is_err_and c.from_residual-in_err-check_last.result c.from_residual-in_err-check_last.ensures.1 in
    let x = c.in_err-check_last.field-0.0 in
    let e = unless_err _ x c.in_err-check_last.ensures in
    rw (p.1, p.2) (refuses a.state.now a.block.now a.last a.costs.now x (by_end (goal.at.returns-in_err-check_last c).After-check_last ∙ e.0) e.1)

pub keep_bytes-count-requires : goal.keep_bytes-count-requires
keep_bytes-count-requires c =
    let a = c.args in
    let h : a.state.now.count < 2 ^ 32 = search rules in
    let p = c.in_ok-payload.ensures.ok in
    (omega (arith, h), rw p.1 (payload_small a.state.now.blocks a.last a.block.now p.0))

-- the state then, and all that is gathered
gone_on : (c : After-keep_bytes-count) → let a = c.args in one_more a.state.now c.read_bytes-reader.result c.keep_bytes-count.result ≡ start_after a.state.now a.block.now
gone_on c =
    let p = c.in_ok-payload.ensures.ok in
    rw (← p.1, c.read_bytes-reader.ensures, c.keep_bytes-count.ensures.0)

given : (c : After-keep_bytes-count) → let a = c.args in
    Gives a.state.now a.block.now a.last a.costs.now (Ok (cond a.last (start_after a.state.now a.block.now).count 0)) (start_after a.state.now a.block.now) c.keep_bytes-count.new.costs
given c =
    let a = c.args in
    let p = c.in_ok-payload.ensures.ok in
    let w = accepts a.state.now a.block.now a.last a.costs.now (by_end (goal.at.After-keep_bytes-count c).After-check_last ∙ unless_ok _ c.in_ok-check_last.ensures) in
    rw (rw p.1 at c.keep_bytes-count.ensures.1) w

pub returns-then-last : goal.returns-then-last
returns-then-last c =
    let past = goal.at.returns-then-last c in
    let a = c.args in
    let q = gone_on past.After-keep_bytes-count in
    let w = given past.After-keep_bytes-count in
    let e : c.keep_bytes-count.result % 4294967296 ≡ cond a.last (start_after a.state.now a.block.now).count 0 = rw c.if-last.true (ap (λ (t : Start). t.count) q) in
    (ap Ok e ∙ w.0, q ∙ w.1, w.2)

pub returns-else-last : goal.returns-else-last
returns-else-last c =
    let past = goal.at.returns-else-last c in
    let a = c.args in
    let q = gone_on past.After-keep_bytes-count in
    let w = given past.After-keep_bytes-count in
    let e : 0 ≡ cond a.last (start_after a.state.now a.block.now).count 0 = rw c.if-last.false in
    (ap Ok e ∙ w.0, q ∙ w.1, w.2)
