-- `network::decimal::digits` meets its contract. Invariant: the digits of what is left, with the text written so far, are all
-- the digits, and zeros stand before that text. Assumes nothing.
use Rattle.std.specs.Prelude.{◌≡◌, ◌++◌, length, take, drop, replicate}
use Rattle.runs.specs.Count.{value_of}
use Rattle.runs.specs.Digits.{decimal}
use Rattle.network.proofs.decimal.digits.Given as goal

abbrev pub invariant-loop-start : goal.invariant-loop-start
invariant-loop-start l =
    (length l.text ≡ 40) × (take l.start l.text ≡ replicate l.start 0) × (decimal 40 (value_of l.initial.rest) ≡ decimal l.start (value_of l.rest) ++ drop l.start l.text)
