-- `table_agrees` meets its contract: there is a table of that number and room for its stream, which stands in front of the buffer.
use Rattle.std.proofs.Common.{rules}
use Prim.Native.Nat.{ℕ, ◌≤◌}
use mathlib.Core.Path.{sym, ap, ◌∙◌}
use native.Mathlib.Omega.{arith}
use native.Mathlib.Nat.{sub-zero}
use lib.ListN.{length, take, replicate, length-replicate}
use Rattle.std.proofs.Common.{Ok}
use Rattle.base.specs.Limits.{stream_size}
use Rattle.base.specs.Refusal.{answered}
use Rattle.base.specs.Refusal.Laws.{number_some}
use Rattle.base.specs.declared.Length.{Length}
use Rattle.tiny.specs.Tiny.{tiny_of}
use Rattle.tiny.specs.Steps.{refused_none, given-fits, given_front}
use Rattle.agreement.specs.Agreement.{agree_of}
use Rattle.agreement.proofs.table_agrees.Goals as goal

room : stream_size ≤ length (replicate {A = ℕ} stream_size 0)
room = omega (arith, length-replicate {A = ℕ} stream_size 0)

pub slice_bounds-stream-end : goal.slice_bounds-stream-end
slice_bounds-stream-end c = let p : c.in-Ok.length ≤ stream_size = given-fits c.args.n c.args.number c.requires (replicate stream_size 0) room (answered (Ok c.in-Ok.length)) c.in-Ok.ensures.0 in search rules

pub slice_bounds-agree-end : goal.slice_bounds-agree-end
slice_bounds-agree-end c = let p : c.in-Ok.length ≤ stream_size = given-fits c.args.n c.args.number c.requires (replicate stream_size 0) room (answered (Ok c.in-Ok.length)) c.in-Ok.ensures.0 in search rules

pub returns-in-Ok : goal.returns-in-Ok
returns-in-Ok c =
    let k = c.in-Ok.length in
    let front = rw sub-zero at (given_front c.args.n c.args.number c.requires (replicate stream_size 0) room (answered (Ok k)) c.in-Ok.ensures.0) in
    c.agree.ensures ∙ ap (agree_of c.args.pool c.args.order) (ap (take k) c.in-Ok.ensures.1 ∙ front)

pub returns-in-Err : goal.returns-in-Err
unfolding tiny_of
returns-in-Err c =
    let none = refused_none c.args.n c.args.number (length (replicate {A = ℕ} stream_size 0)) c.requires room in
    absurd (number_some c.in-Err.field-0 (ap (λ (x : Length). x.refusal) c.in-Err.ensures.0 ∙ sym none))
