-- `filled_to` meets its contract. The loop's invariant: every place passed is good. Assumes nothing.
use mathlib.Core.Path.{◌≡◌}
use mathlib.Core.Bool.{true}
use Rattle.base.specs.Every.{every}
use Rattle.message.specs.Message.{place_at}
use Rattle.message.proofs.fields.filled_to.Given as goal

abbrev pub invariant-loop-i : goal.invariant-loop-i
invariant-loop-i l = every (place_at l.k l.sizes l.places) l.i ≡ true
