-- `convert` meets its contract: refused, nothing is written; accepted, the file in that form stands in front of what was there.
-- Assumes nothing.
use Prim.Native.Nat.{◌≤◌, ◌*◌}
use mathlib.Core.Path.{◌≡◌, refl, sym, ◌∙◌}
use native.Mathlib.Omega.{arith}
use lib.ListN.{length}
use Rattle.std.proofs.lemmas.Result.{err_from_is_err_and}
use Rattle.base.specs.Refusal.{number_of}
use Rattle.base.specs.Refusal.Laws.{number_some}
use Rattle.table.specs.File.{stream_of}
use Rattle.table.specs.FileLaws.{written_length_lem, gives-refused, gives-accepted}
use Rattle.table.specs.RoundTrip.{AcceptedFile}
use Rattle.table.specs.Form.{in_form, converted, convert_refusal, convert_of, convert_into}
use Rattle.table.specs.Form.Laws.{space_for, refused_file, refused_space, refused_loss, convert_accepts}
use Rattle.table.specs.Form.Pieces.{Within, made-within, made-stream, made-left_out, made_space}
use Rattle.table.proofs.converter.convert.Goals as goal
use Rattle.table.proofs.converter.convert.Goals.{In_ok-check_file, After-pieces_of-pieces, After-blocks_for-blocks}

pub returns-in_err-check_file : goal.returns-in_err-check_file
unfolding convert_of convert_into
returns-in_err-check_file c =
    let a = c.args in
    let f = a.file.now in
    let p = err_from_is_err_and c.from_residual.result c.from_residual.ensures.1 in
    let r = c.in_err-check_file.field-0.0 in
    rw (p.1, p.2) (gives-refused (convert_refusal a.form f (length a.out.now)) (number_of r) (refused_file a.form f (length a.out.now) (number_of r) c.in_err-check_file.ensures (number_some r)) (length (converted a.form f)) (converted a.form f) a.out.now (number_some r))

-- what holds past the first test, and past the count of the blocks
accepted : (c : In_ok-check_file) → AcceptedFile c.args.file.now
unfolding AcceptedFile
accepted c = sym c.in_ok-check_file.ensures

within : (c : After-pieces_of-pieces) → Within c.pieces_of-pieces.result (stream_of c.args.file.now)
within c =
    let a = c.args in
    made-within a.form a.file.now (accepted (goal.at.After-pieces_of-pieces c).In_ok-check_file) c.pieces_of-pieces.result c.pieces_of-pieces.ensures

space : (c : After-blocks_for-blocks)
    → (c.blocks_for-blocks.result ≤ 123)
    × (512 * c.blocks_for-blocks.result ≡ space_for c.args.form c.args.file.now)
space c =
    let a = c.args in
    made_space a.form a.file.now (accepted (goal.at.After-blocks_for-blocks c).In_ok-check_file) c.pieces_of-pieces.result c.pieces_of-pieces.ensures c.len.result c.blocks_for-blocks.result c.len.ensures c.blocks_for-blocks.ensures

pub invariant_of-made : goal.invariant_of-made
invariant_of-made c = record { within = within (goal.at.invariant_of-made c).After-pieces_of-pieces }

pub returns-then-out-blocks : goal.returns-then-out-blocks
unfolding convert_of convert_into
returns-then-out-blocks c =
    let a = c.args in
    let f = a.file.now in
    gives-refused (convert_refusal a.form f (length a.out.now)) 13 (refused_space a.form f (length a.out.now) (accepted (goal.at.returns-then-out-blocks c).In_ok-check_file) (omega (arith, (space (goal.at.returns-then-out-blocks c).After-blocks_for-blocks).1, c.if-out-blocks.true))) (length (converted a.form f)) (converted a.form f) a.out.now (λ e. omega arith)

pub returns-then-not-zero_between : goal.returns-then-not-zero_between
unfolding convert_of convert_into
returns-then-not-zero_between c =
    let a = c.args in
    let f = a.file.now in
    let l = made-left_out a.form f (accepted (goal.at.returns-then-not-zero_between c).In_ok-check_file) c.pieces_of-pieces.result c.pieces_of-pieces.ensures in
    gives-refused (convert_refusal a.form f (length a.out.now)) 18 (refused_loss a.form f (length a.out.now) (accepted (goal.at.returns-then-not-zero_between c).In_ok-check_file) (omega (arith, (space (goal.at.returns-then-not-zero_between c).After-blocks_for-blocks).1, c.if-out-blocks.false)) (sym l ∙ sym c.zero_between.ensures ∙ c.if-not-zero_between.true)) (length (converted a.form f)) (converted a.form f) a.out.now (λ e. omega arith)

pub returns : goal.returns
unfolding convert_of convert_into
returns c =
    let a = c.args in
    let f = a.file.now in
    let o = a.out.now in
    let m = made-stream a.form f (accepted (goal.at.returns c).In_ok-check_file) c.pieces_of-pieces.result c.pieces_of-pieces.ensures in
    let l = made-left_out a.form f (accepted (goal.at.returns c).In_ok-check_file) c.pieces_of-pieces.result c.pieces_of-pieces.ensures in
    let n : length (converted a.form f) ≡ 512 * c.blocks_for-blocks.result = written_length_lem (in_form a.form (stream_of f)) ∙ sym (space (goal.at.returns c).After-blocks_for-blocks).1 in
    let r = convert_accepts a.form f (accepted (goal.at.returns c).In_ok-check_file) (sym l ∙ sym c.zero_between.ensures ∙ c.if-not-zero_between.false) (length o) (omega (arith, c.if-out-blocks.false)) in
    let g = gives-accepted (convert_refusal a.form f (length o)) 0 (sym r) (length (converted a.form f)) (converted a.form f) o refl in
    (rw (← n) g.0, c.write.ensures ∙ rw m g.1)
