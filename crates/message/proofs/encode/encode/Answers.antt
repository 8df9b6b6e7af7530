-- `encode` meets its contract: the checksum of the first 62 bytes is laid after them.
-- Assumes nothing.
use Prim.Native.Nat.{◌<◌}
use mathlib.Core.Path.{◌≡◌, ap, ◌∙◌}
use mathlib.Core.List.{[], ◌∷◌}
use native.Mathlib.Omega.{arith}
use lib.ListN.{length, take}
use lib.Seq.{take_at}
use borrow.Author.Rules.{rules}
use Rattle.checksum.specs.Sum.{sum_of}
use Rattle.checksum.specs.Sum.Laws.{sum_small}
use Rattle.message.specs.Layout.{check_byte}
use Rattle.message.specs.Sized.{Sized}
use Rattle.message.specs.Written.{body, encode}
use Rattle.message.specs.EncodeLaws.{length_body, sum_laid}
use Rattle.message.proofs.encode.encode.Goals as goal
use Rattle.message.proofs.encode.encode.Goals.{After-sum-sum}

-- the sum fits its two bytes
pub overflow_cast-sum : goal.overflow_cast-sum
overflow_cast-sum c = let l : c.sum-sum.result < 65536 = omega (arith, c.sum-sum.ensures, sum_small (take 62 c.body-r.result)) in search rules

pub returns : goal.returns
unfolding encode
returns c =
    let a = c.args in
    let z : Sized a.m = record { stamp = search rules; values = search rules; best = search rules; cost = search rules; bound = search rules } in
    let b = body a.kind a.m in
    let h : length b ≡ check_byte = length_body a.kind a.m z in
    let e : c.sum-sum.result ≡ sum_of b = c.sum-sum.ensures ∙ ap sum_of (rw c.body-r.ensures (take_at b (0 ∷ 0 ∷ []) check_byte h)) in
    rw (c.lay.ensures, c.to_le_bytes.ensures, c.body-r.ensures, ← e) (sum_laid b c.sum-sum.result h)
