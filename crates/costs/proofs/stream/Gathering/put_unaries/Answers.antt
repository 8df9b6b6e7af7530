-- `put_unaries` meets its contract: in form one zeros are written, in form two a part of the stream.
-- Assumes nothing.
use Rattle.std.proofs.Common.{◌≡◌, pred, ◌+◌, ◌*◌, ℕ, ◌++◌, length, take, drop, replicate, sym, ap, ◌∙◌, arith, length-take-le}
use lib.ListN.{length-replicate}
use Rattle.costs.specs.Lent.Parts.{dom_from}
use Rattle.costs.specs.Gathered.{unary_bytes}
use Rattle.costs.specs.Gather.Steps.{Opened, Part, opened_one, opened-two, unary_zeros, unary_part}
use Rattle.costs.proofs.stream.Gathering.put_unaries.Goals as goal
use Rattle.costs.proofs.stream.Gathering.put_unaries.Goals.{After-size_of-count, Then-self-eq0, After-sum_sizes}

size : (c : After-size_of-count) → c.size_of-count.result ≡ dom_from c.args.self.now.seat (pred c.args.self.now.seat.own)
size c = c.size_of-count.ensures.0 ∙ ap (dom_from c.args.self.now.seat) c.place-place.ensures.0

is_opened : (c : After-size_of-count) → let o = c.args.self.now.opened in Opened o.stream.now o.before
is_opened c = record { is = c.args.self.now.opened.is; most = c.args.self.now.opened.most }

-- in form one the costs are zeros, and there is room for them
zeros : (c : Then-self-eq0) → let a = c.args in unary_bytes a.self.now.opened.stream.now (pred a.self.now.seat.own) ≡ replicate (2 * c.size_of-count.result) 0
zeros c = let pre = c.args.self.now in unary_zeros pre.seated pre.unit c.size_of-count.result (size (goal.at.Then-self-eq0 c).After-size_of-count) (opened_one (is_opened (goal.at.Then-self-eq0 c).After-size_of-count) c.if-self-eq0.true)

room : (c : Then-self-eq0) → length (take (2 * c.size_of-count.result) c.args.out.now) ≡ 2 * c.size_of-count.result
room c = length-take-le (2 * c.size_of-count.result) c.args.out.now (omega (arith, ap length (zeros c), c.requires, length-replicate {A = ℕ} (2 * c.size_of-count.result) 0))

-- in form two a part of the stream is copied
part : (c : After-sum_sizes)
    → let a = c.args in
    Part a.self.now.opened.stream.now (unary_bytes a.self.now.opened.stream.now (pred a.self.now.seat.own)) (c.unaries_at.result + 2 * c.sum_sizes.result) (2 * c.size_of-count.result)
part c =
    let pre = c.args.self.now in
    unary_part pre.seated pre.unit c.size_of-count.result (size (goal.at.After-sum_sizes c).After-size_of-count) (opened-two (is_opened (goal.at.After-sum_sizes c).After-size_of-count) c.if-self-eq0.false) c.unaries_at.result c.sum_sizes.result c.unaries_at.ensures.0
    (c.sum_sizes.ensures.0 ∙ rw c.place-place.ensures.0)

pub slice_bounds-fill-end : goal.slice_bounds-fill-end
slice_bounds-fill-end c = omega (arith, ap length (zeros c), c.requires, length-replicate {A = ℕ} (2 * c.size_of-count.result) 0)

pub slice_bounds-fill-end-then-self-eq0 : goal.slice_bounds-fill-end-then-self-eq0
slice_bounds-fill-end-then-self-eq0 c = sym (room (goal.at.slice_bounds-fill-end-then-self-eq0 c).Then-self-eq0)

pub returns-then-self-eq0 : goal.returns-then-self-eq0
returns-then-self-eq0 c =
    let past = (goal.at.returns-then-self-eq0 c).Then-self-eq0 in
    let n = 2 * c.size_of-count.result in
    let size = length-replicate {A = ℕ} n 0 in
    let end : n ≡ 0 + length (replicate n 0) = omega (arith, size) in
    (rw (zeros past) (sym size), rw (zeros past, c.fill.ensures.after (λ y e. e), room past) (ap (λ (m : ℕ). replicate n 0 ++ drop m c.args.out.now) end))

pub copy_part-requires : goal.copy_part-requires
copy_part-requires c =
    let past = goal.at.copy_part-requires c in
    ((part past.After-sum_sizes).inside, omega (arith, (part past.After-sum_sizes).counted, c.requires))

pub returns-else-self-eq0 : goal.returns-else-self-eq0
returns-else-self-eq0 c =
    let past = goal.at.returns-else-self-eq0 c in
    ((part past.After-sum_sizes).counted, c.copy_part.ensures ∙ (part past.After-sum_sizes).put c.args.out.now 0)
