-- `back` meets its contract: the solutions to lower and to higher units are laid behind what is handed back.
-- Assumes nothing.
use Prim.Native.Nat.{◌+◌, ◌*◌, ◌-◌, ◌≤◌}
use mathlib.Core.Path.{◌≡◌, refl, ◌∙◌}
use mathlib.Core.Bool.{true}
use native.Mathlib.Omega.{arith}
use lib.ListN.{length, length-append}
use Rattle.message.specs.Sized.{Sized}
use Rattle.rules.specs.Send.{hand_back, solutions}
use Rattle.rules.specs.Laying.{handed_most, back_laid, back_count, back_quiet}
use borrow.Author.Rules.{rules}
use Rattle.unit.proofs.sending.back.Goals as goal
use Rattle.unit.proofs.sending.back.Goals.{Start, Else-not-improved, After-hand_back-sent}

-- what the types say of the message
sized : (c : Start) → Sized c.args.m
sized c = record { stamp = search rules; values = search rules; best = search rules; cost = search rules; bound = search rules }

-- there is room for the solutions with what is handed back
room : (c : Else-not-improved) → let a = c.args in 64 * (c.hand_back-sent.result + (a.seat.own - 1) + (a.seat.n - a.seat.own)) ≤ length a.out.now
room c =
    let a = c.args in
    rw (back_count a.seat.n a.seat.own a.m a.out.now (omega arith) (sized (goal.at.Else-not-improved c).Start) a.improved _ _ (c.if-not-improved.false) c.hand_back-sent.ensures.0 refl) c.requires.1

-- what is handed back is at most 16 messages
few : (c : After-hand_back-sent) → c.hand_back-sent.result ≤ 16
few c =
    let a = c.args in
    omega (arith, c.hand_back-sent.ensures.0, handed_most a.seat.n a.seat.own a.m a.out.now c.requires.0.first (sized (goal.at.After-hand_back-sent c).Start) c.requires.0.last c.requires.0.units)

pub hand_back-sent-requires : goal.hand_back-sent-requires
hand_back-sent-requires c =
    let a = c.args in
    (c.requires.0, omega (arith, c.requires.1, length-append (hand_back a.seat.n (a.seat.own - 1) a.m) (solutions a.seat.n (a.seat.own - 1) a.improved a.m)))

pub returns-then-not-improved : goal.returns-then-not-improved
returns-then-not-improved c = let a = c.args in back_quiet a.seat.n (a.seat.own - 1) a.m a.improved _ a.out.now _ (c.if-not-improved.true) c.hand_back-sent.ensures

pub spread-lower-requires : goal.spread-lower-requires
spread-lower-requires c =
    let past = goal.at.spread-lower-requires c in
    let a = c.args in
    let all = room past.Else-not-improved in
    let most = few past.After-hand_back-sent in
    let same : length c.hand_back-sent.new.out ≡ length a.out.now = search rules in
    (omega arith, omega (arith, most), omega (arith, all, same))

pub spread-requires : goal.spread-requires
spread-requires c =
    let past = goal.at.spread-requires c in
    let a = c.args in
    let all = room past.Else-not-improved in
    let most = few past.After-hand_back-sent in
    let lower = c.spread-lower.ensures.0 in
    let same : length c.spread-lower.new.out ≡ length a.out.now = search rules in
    (omega arith, omega (arith, most, lower), omega (arith, all, lower, same))

pub returns : goal.returns
returns c =
    let past = goal.at.returns c in
    let a = c.args in
    let z = sized past.Start in
    let fits = room past.Else-not-improved in
    let one = c.hand_back-sent.ensures in
    let two = c.spread-lower.ensures in
    let all = c.spread.ensures in
    let e : a.improved ≡ true = c.if-not-improved.false in (
      all.0 ∙ back_count a.seat.n a.seat.own a.m a.out.now (omega arith) z a.improved _ _ e one.0 two.0,
      all.1 ∙ back_laid a.seat.n a.seat.own a.m a.out.now (omega arith) z a.improved _ _ e one.0 two.0 _ _ _ c.bound_only-solution.ensures one.1 two.1 (omega (arith, fits, two.0)),
    )
