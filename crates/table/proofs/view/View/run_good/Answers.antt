-- `run_good` meets its contract: a run in one block is as many costs of the file, and a cost in two blocks is that of its two bytes.
-- Assumes nothing.
use Prim.Native.Nat.{ℕ}
use mathlib.Core.Path.{◌≡◌, ap, ◌∙◌}
use native.Mathlib.Omega.{arith}
use lib.ListN.{get_or}
use Rattle.table.specs.StreamLaws.{test_of}
use Rattle.table.specs.FileLaws.{run_in_block, cost_in_two}
use Rattle.table.proofs.view.View.run_good.Goals as goal

pub returns-then-at-eq-PAYLOAD_SIZE : goal.returns-then-at-eq-PAYLOAD_SIZE
returns-then-at-eq-PAYLOAD_SIZE c =
    let v = c.args.self.now in
    let one : c.args.run ≡ 1 = c.requires.4.1 (omega arith) in
    let a = c.byte_at.ensures ∙ ap (λ (x : ℕ). get_or v.bytes.now x 0) c.place_in_file.ensures in
    let b = c.byte_at-then-at-eq-PAYLOAD_SIZE.ensures ∙ ap (λ (x : ℕ). get_or v.bytes.now x 0) c.place_in_file-then-at-eq-PAYLOAD_SIZE.ensures in
    let viewed = rw c.requires.0 at v.viewed in
    c.costs_good.ensures ∙ rw (one, c.requires.0) (cost_in_two v.bytes.now v.count viewed (test_of c.args.kind) c.args.at c.byte_at.result c.byte_at-then-at-eq-PAYLOAD_SIZE.result (omega arith) a b)

pub returns : goal.returns
returns c =
    let v = c.args.self.now in
    let viewed = rw c.requires.0 at v.viewed in
    c.costs_good-2.ensures ∙ rw (c.place_in_file-2.ensures, c.requires.0) (run_in_block v.bytes.now v.count viewed (test_of c.args.kind) c.args.at c.args.run c.requires.1 (c.requires.4.0 (omega arith)))
