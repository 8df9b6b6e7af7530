-- `hear` meets its contract: what the way does to the pool is what the delivery does, by `heard`.
-- Assumes nothing.
use Rattle.rules.specs.Laws.Range.{SizedUnit}
use Rattle.runs.proofs.Trusted.{checks, oldest_readable}
use Rattle.runs.proofs.Short.{heard}
use Rattle.std.proofs.Common.{refl, sym, ◌∙◌, arith, length-take-le}
use borrow.Author.Rules.{rules}
use Rattle.network.proofs.short.hear.Goals as goal
use Rattle.network.proofs.short.hear.Goals.{Start}

pub slice_bounds-unpack-end : goal.slice_bounds-unpack-end
slice_bounds-unpack-end c = let l = (checks c.args.seat.order c.requires.net c.requires.stream c.args.pool.now 0 c.requires.accepted).passed.room in search rules

pub slice_bounds-unpack-end-2 : goal.slice_bounds-unpack-end-2
slice_bounds-unpack-end-2 c =
    let l = (checks c.args.seat.order c.requires.net c.requires.stream c.args.pool.now 0 c.requires.accepted).passed.room in
    sym (length-take-le 64 c.args.pool.now (omega (arith, l)))

pub pass-sent-requires : goal.pass-sent-requires
pass-sent-requires c =
    let a = c.args in
    let t = c.requires in
    let o = checks a.seat.order t.net t.stream a.pool.now 0 t.accepted in
    (rw t.count o.here, rw t.count o.passed.few, o.passed.room)

-- what the type says of the state
arrays : (c : Start) → SizedUnit c.args.u
arrays c = record { threshold = search rules; best = search rules; estimates = search rules; stamp = search rules; values = search rules }

pub unwrap-kind-requires : goal.unwrap-kind-requires
unwrap-kind-requires c =
    let g = oldest_readable c.requires in
    rw (c.unpack.ensures, g.2) refl

pub returns : goal.returns
returns c =
    let w = c.way-way in
    let r = c.pass-sent in
    let sized = arrays (goal.at.returns c).Start in
    let read = sym c.unwrap-kind.ensures ∙ c.unpack.ensures in
    (λ t. heard t sized _ _ read w.result w.ensures r.result r.new.pool r.ensures, read, sized)
