-- `network::making::make_by` meets its contract: a refusal with all zero, or unit 1's making stored. Assumes nothing.
use Rattle.std.proofs.Common.{◌≡◌, length, sym, ◌∙◌, arith}
use Rattle.base.specs.Refusal.{number_of}
use Rattle.base.specs.Refusal.Laws.{number_some}
use Rattle.runs.specs.Calls.{making_refusal}
use Rattle.runs.proofs.CodeLaws.{makeable, make_refuses, first_step, make_begins}
use Rattle.network.proofs.making.make_by.Goals as goal

pub returns-in-Err : goal.returns-in-Err
returns-in-Err c =
    let a = c.args in
    let r = c.in-Err.refusal in
    let e = make_refuses a.order a.stream.now a.pool.now (number_of r) c.in-Err.ensures (number_some r) in
    (c.not_made.ensures ∙ e.0, e.1)

pub returns : goal.returns
returns c =
    let a = c.args in
    let f = c.first_step in
    let none : making_refusal 65536 a.stream.now (length a.pool.now) ≡ 0 = sym c.in_default.ensures in
    let good = makeable 65536 a.stream.now (length a.pool.now) none in
    let o = first_step a.order a.stream.now a.pool.now good.0 (length a.pool.now) (omega (arith, good.1)) in
    let e = make_begins a.order a.stream.now a.pool.now f.result f.new.out (rw o at f.ensures.0) (rw o at f.ensures.1) none in
    (c.begun.ensures ∙ e.0, e.1)
