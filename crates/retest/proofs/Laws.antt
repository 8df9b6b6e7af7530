-- A table that was read fits the buffer that it was read into. By the definition of reading. Assumes nothing.
use Prim.Native.Nat.{ℕ, ◌≤◌}
use mathlib.Core.Path.{◌≡◌, sym, ap, ◌∙◌}
use mathlib.Core.List.{List}
use native.Mathlib.Omega.{arith}
use lib.ListN.{length}
use borrow.Author.Tests.{eq-eqb}
use Rattle.base.specs.declared.Length.{Length}
use Rattle.base.specs.Limits.{stream_size}
use Rattle.table.specs.File.{stream_of, read_refusal, read_of}
use Rattle.table.specs.FileLaws.{read_most}

pub read_fits : (f : List ℕ) (room count : ℕ) → ◌≡◌ {A = Length} (record { refusal = 0; length = count }) (read_of f room) → count ≤ stream_size
unfolding read_of
read_fits f room count e =
    let none : read_refusal f room ≡ 0 = sym (ap (λ (x : Length). x.refusal) e) in
    let same : count ≡ length (stream_of f) = ap (λ (x : Length). x.length) e ∙ rw (eq-eqb (read_refusal f room) 0 none) in
    omega (arith, same, read_most f room none)
