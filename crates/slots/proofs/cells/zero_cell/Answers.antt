-- `slots::cells::zero_cell` meets its contract: the part of 64 bytes is zero then, the rest as it was.
-- Assumes nothing.
use Rattle.std.proofs.Common.{◌≡◌, ℕ, ◌+◌, ◌-◌, ◌*◌, drop, length, replicate, refl, sym, ap, ◌∙◌, arith, length-drop, length-take-le}
use Rattle.base.specs.Put.Laws.{put-part}
use Rattle.slots.proofs.cells.zero_cell.Goals as goal

pub returns : goal.returns
returns c =
    let a = c.args in
    let k : 64 * a.cell + 64 - 64 * a.cell ≡ 64 = omega arith in
    let rest = drop (64 * a.cell) a.pool.now in
    let long : length c.fill.new.self ≡ 64 = c.fill.ensures.len ∙ rw k (length-take-le 64 rest (omega (arith, length-drop (64 * a.cell) a.pool.now, c.requires.0, c.requires.1))) in
    let zeros : c.fill.new.self ≡ replicate 64 0 = c.fill.ensures.after (λ y e. e) ∙ ap (λ (n : ℕ). replicate n 0) (sym c.fill.ensures.len ∙ long) in
    rw (k, zeros) (put-part a.pool.now (replicate 64 0) (64 * a.cell) 64 refl)
