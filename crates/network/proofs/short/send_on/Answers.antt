-- `send_on` meets its contract: the gap closed, then what is sent laid behind the others.
-- Assumes nothing.
use Rattle.std.specs.Prelude.{◌≡◌, ℕ, ◌-◌, ◌*◌, List, ◌++◌, length, take, drop}
use mathlib.Core.Path.{sym, ap, ◌∙◌}
use mathlib.Core.List.{append-nil}
use native.Mathlib.Omega.{arith}
use lib.ListN.{length-drop}
use lib.Seq.{take_all, drop-length}
use Rattle.message.specs.Sized.{Sized}
use borrow.Author.Rules.{rules}
use Rattle.network.proofs.short.send_on.Goals as goal
use Rattle.network.proofs.short.send_on.Goals.{Start}

-- what the types say of what is sent
sized : (c : Start) → Sized c.args.d.sending.message
sized c = record { stamp = search rules; values = search rules; best = search rules; cost = search rules; bound = search rules }

-- the part of a list up to its end
part-all : (l : List ℕ) (at : ℕ) → take (length l - at) (drop at l) ≡ drop at l
part-all l at = take_all (length l - at) (drop at l) (omega (arith, length-drop at l))

put_all : (l ys : List ℕ) (at : ℕ) → take at l ++ (ys ++ drop (length l - at) (drop at l)) ≡ take at l ++ ys
put_all l ys at = ap (λ (k : ℕ). take at l ++ (ys ++ drop k (drop at l))) (sym (length-drop at l)) ∙ ap (λ (r : List ℕ). take at l ++ (ys ++ r)) (drop-length (drop at l)) ∙ ap (λ (r : List ℕ). take at l ++ r) (append-nil ys)

pub returns : goal.returns
returns c =
    let r = c.send in
    let l = c.close.new.pool in
    let at = 64 * (c.args.used - 1) in
    let closed = c.close.ensures in (
      sized (goal.at.returns c).Start,
      r.ensures.0 ∙ rw (part-all l at, closed),
      put_all l r.new.out at ∙ ap (λ (ys : List ℕ). take at l ++ ys) r.ensures.1 ∙ rw (part-all l at, closed),
    )
