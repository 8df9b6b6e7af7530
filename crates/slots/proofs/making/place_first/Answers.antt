-- `slots::making::place_first` meets its contract: unit 1's making placed in a pool of zeros. Assumes nothing.
use Rattle.std.proofs.Common.{◌≡◌, ℕ, ◌≤◌, List, length, replicate, ap, ◌∙◌, arith, rules}
use lib.ListN.{length-replicate}
use Rattle.table.specs.Stream.{Accepted}
use Rattle.table.specs.StreamLaws.{accepted_units}
use Rattle.runs.specs.declared.Core.{Core}
use Rattle.runs.proofs.CodeLaws.{makeable}
use Rattle.slots.specs.Placing.{place_sent}
use Rattle.slots.specs.Code.{first_sent, make_begins}
use Rattle.slots.proofs.making.place_first.Goals as goal
use Rattle.slots.proofs.making.place_first.Goals.{Start, After-first_step-r}

-- nothing is refused, so the table is accepted and the pool is long enough
passed : (c : Start) → Accepted c.args.stream.now × (19200 ≤ length c.args.pool.now)
passed c = makeable 19200 c.args.stream.now (length c.args.pool.now) c.requires

few : (c : After-first_step-r) → c.first_step-r.result.sent ≤ 16
few c = let f = c.first_step-r in first_sent c.args.order c.args.stream.now (passed (goal.at.After-first_step-r c).Start).0 (replicate 1024 0) f.new.out (omega (arith, length-replicate {A = ℕ} 1024 0)) f.result f.ensures.0 f.ensures.1

pub zero_cells-requires : goal.zero_cells-requires
zero_cells-requires c =
    let z = passed (goal.at.zero_cells-requires c).Start in
    (omega (arith, c.units_of-n.ensures, (accepted_units c.args.stream.now z.0).1), z.1)

pub place_all-requires : goal.place_all-requires
place_all-requires c =
    let f = few (goal.at.place_all-requires c).After-first_step-r in
    let l : length c.first_step-r.new.out ≡ 1024 = search rules in
    omega (arith, c.from.ensures, f, l)

pub returns : goal.returns
returns c =
    let a = c.args in
    let f = c.first_step-r in
    let z = passed (goal.at.returns c).Start in
    let n = c.units_of-n in
    let e = make_begins a.order a.stream.now z.0 (replicate 1024 0) f.new.out (omega (arith, length-replicate {A = ℕ} 1024 0)) f.result f.ensures.0 f.ensures.1 a.pool.now c.requires z.1 in (
      ap (λ (x : Core). record { refusal = 0; core = x }) c.begun.ensures ∙ e.0,
      (rw c.from.ensures at c.place_all.ensures) ∙ ap (λ (x : List ℕ). place_sent n.result x f.new.out 0 f.result.sent) c.zero_cells.ensures ∙ rw n.ensures e.1,
    )
