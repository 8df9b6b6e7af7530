-- `scan` meets its contract. The loop's invariant: what is left of the text leads to the same as the whole.
-- Assumes nothing.
use Prim.Native.Nat.{◌+◌, ◌≤◌}
use mathlib.Core.Path.{◌≡◌}
use lib.ListN.{length, drop}
use Rattle.rows.specs.Sheet.{blank_sheet, sheet_after, names_after}
use Rattle.rows.proofs.reading.scan.Given as goal

abbrev pub invariant-loop-i : goal.invariant-loop-i
invariant-loop-i l = (l.s.number ≤ l.i + 1) × (sheet_after (length l.initial.names) blank_sheet l.text ≡ sheet_after (length l.initial.names) l.s (drop l.i l.text)) × (names_after blank_sheet l.text l.initial.names ≡ names_after l.s (drop l.i l.text) l.names)
