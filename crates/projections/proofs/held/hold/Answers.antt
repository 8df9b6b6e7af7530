-- `hold` meets its contract: an accepted stream has as many costs as are counted, and they stand where they are read.
-- Assumes nothing.
use Prim.Native.Nat.{◌+◌, ◌≤◌}
use mathlib.Core.Path.{◌≡◌, sym}
use native.Mathlib.Omega.{arith}
use native.Mathlib.Nat.{mul-le-mul}
use lib.ListN.{length}
use Rattle.base.specs.Sums.{sum_to}
use Rattle.table.specs.Stream.{units_of, unaries_at, Accepted}
use Rattle.costs.specs.Instance.{dom_of}
use Rattle.costs.specs.Laws.Stream.{row_start}
use Rattle.std.proofs.lemmas.Result.{err_from_is_err_and}
use Rattle.base.specs.Refusal.{number_of}
use Rattle.base.specs.Refusal.Laws.{number_some}
use Rattle.projections.specs.Made.Steps.{units_most, own-count, pair_count_lem, pairs_from, hold_refused, hold_short, hold_done, both_put, all_count}
use borrow.Author.Rules.{rules}
use Rattle.projections.proofs.held.hold.Goals as goal
use Rattle.projections.proofs.held.hold.Goals.{In_ok-check_stream, After-row_start-pairs, After-sizes_of-sizes}

ok : (c : In_ok-check_stream) → Accepted c.args.stream.now
unfolding Accepted
ok c = sym c.in_ok-check_stream.ensures

own : (c : After-row_start-pairs) → c.sum_sizes-own.result ≡ sum_to (dom_of c.args.stream.now) (units_of c.args.stream.now)
own c =
    own-count c.args.stream.now (ok (goal.at.After-row_start-pairs c).In_ok-check_stream) c.units_of-n.ensures c.sizes_of-sizes.ensures c.sum_sizes-own.result c.from.result c.sum_sizes-own.ensures.0 c.from.ensures

pairs : (c : After-row_start-pairs) → c.row_start-pairs.result ≡ row_start (dom_of c.args.stream.now) (units_of c.args.stream.now) (units_of c.args.stream.now)
pairs c =
    pair_count_lem c.args.stream.now (ok (goal.at.After-row_start-pairs c).In_ok-check_stream) c.units_of-n.ensures c.sizes_of-sizes.ensures c.row_start-pairs.result c.from-2.result c.row_start-pairs.ensures.0 c.from-2.ensures

most : (c : After-sizes_of-sizes) → c.units_of-n.result ≤ 16
most c = units_most c.args.stream.now (ok (goal.at.After-sizes_of-sizes c).In_ok-check_stream) c.units_of-n.ensures c.sizes_of-sizes.ensures

pub returns-in_err-check_stream : goal.returns-in_err-check_stream
returns-in_err-check_stream c =
    let p = err_from_is_err_and c.from_residual.result c.from_residual.ensures.1 in
    let r = c.in_err-check_stream.field-0.0 in
    rw (p.1, p.2) (hold_refused c.args.stream.now c.args.out.now (number_of r) c.in_err-check_stream.ensures (number_some r))

pub row_start-pairs-requires : goal.row_start-pairs-requires
row_start-pairs-requires c = (most (goal.at.row_start-pairs-requires c).After-sizes_of-sizes, omega (arith, c.from-2.ensures))

pub returns-then-out-own : goal.returns-then-out-own
returns-then-out-own c =
    let past = goal.at.returns-then-out-own c in
    hold_short c.args.stream.now c.args.out.now (sym c.in_ok-check_stream.ensures) (c.sum_sizes-own.result + c.row_start-pairs.result) (all_count c.args.stream.now c.sum_sizes-own.result c.row_start-pairs.result (own past.After-row_start-pairs) (pairs past.After-row_start-pairs)) c.if-out-own.true

pub put_own-requires : goal.put_own-requires
put_own-requires c =
    let b = c.opening-before.ensures in
    let f : c.opening-before.result + 1 + c.from-3.result ≡ unaries_at c.args.stream.now = omega (arith, b.0, c.from-3.ensures, c.units_of-n.ensures) in
    (b.0, f, omega (arith, b.1), omega (arith, c.sum_sizes-own.ensures.1), omega (arith, c.if-out-own.false))

pub overflow_mul-before : goal.overflow_mul-before
overflow_mul-before c =
    let s : c.sum_sizes-own.result ≤ 4080 = omega (arith, c.sum_sizes-own.ensures.1, c.from.ensures, most (goal.at.overflow_mul-before c).After-sizes_of-sizes) in
    let p = mul-le-mul c.opening-before.ensures.1 s in
    omega (arith, p)

pub overflow_mul-before-2 : goal.overflow_mul-before-2
overflow_mul-before-2 c =
    let s : c.sum_sizes-own.result ≤ 4080 = omega (arith, c.sum_sizes-own.ensures.1, c.from.ensures, most (goal.at.overflow_mul-before-2 c).After-sizes_of-sizes) in
    let p = mul-le-mul c.opening-before.ensures.1 s in
    omega (arith, p)

pub overflow_add-from-3 : goal.overflow_add-from-3
overflow_add-from-3 c =
    let s : c.sum_sizes-own.result ≤ 4080 = omega (arith, c.sum_sizes-own.ensures.1, c.from.ensures, most (goal.at.overflow_add-from-3 c).After-sizes_of-sizes) in
    let p = mul-le-mul c.opening-before.ensures.1 s in
    omega (arith, p, c.opening-before.ensures.1)

pub put_pairs-requires : goal.put_pairs-requires
put_pairs-requires c =
    let past = goal.at.put_pairs-requires c in
    let b = c.opening-before.ensures in
    let f : c.opening-before.result + 1 + c.from-3.result ≡ unaries_at c.args.stream.now = omega (arith, b.0, c.from-3.ensures, c.units_of-n.ensures) in
    let s : c.sum_sizes-own.result ≤ 4080 = omega (arith, c.sum_sizes-own.ensures.1, c.from.ensures, most past.After-sizes_of-sizes) in
    let p = mul-le-mul c.opening-before.ensures.1 s in
    let k : length c.put_own.new.out ≡ length c.args.out.now = search rules in
    (pairs_from c.args.stream.now (ok past.In_ok-check_stream) c.opening-before.result (c.opening-before.result + 1 + c.from-3.result) c.sum_sizes-own.result b.0 f (own past.After-row_start-pairs), omega (arith, p, b.1), omega (arith, c.row_start-pairs.ensures.1, c.from-2.ensures, most past.After-sizes_of-sizes), omega (arith, k, c.if-out-own.false))

pub returns : goal.returns
returns c =
    let past = goal.at.returns c in
    hold_done c.args.stream.now c.args.out.now (sym c.in_ok-check_stream.ensures) (c.sum_sizes-own.result + c.row_start-pairs.result) (all_count c.args.stream.now c.sum_sizes-own.result c.row_start-pairs.result (own past.After-row_start-pairs) (pairs past.After-row_start-pairs)) _ c.if-out-own.false (both_put c.args.stream.now c.args.out.now c.put_own.new.out _ c.sum_sizes-own.result c.row_start-pairs.result (own past.After-row_start-pairs) (pairs past.After-row_start-pairs) c.put_own.ensures c.put_pairs.ensures)
