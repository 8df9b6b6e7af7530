-- That closing the gap and copying in what was sent is the pool after a delivery.
-- By laws on lists. Assumes nothing.
use Prim.Native.Nat.{ℕ, suc, ◌+◌, ◌*◌, ◌-◌, ◌≤◌, ◌<◌}
use Rattle.std.specs.Prelude.{◌≡◌}
use Rattle.std.proofs.Common.{sym, ◌∙◌, length-append, length-drop, length-take-le}
use Rattle.std.proofs.Math.Path.{ap}
use mathlib.Core.List.{List, ◌++◌, append_assoc}
use native.Mathlib.Omega.{arith}
use Rattle.std.proofs.Math.ListN.{length, take, drop}
use Rattle.std.proofs.Math.Seq.{paste, take_at, drop-append-add, drop-drop}
use Rattle.base.specs.Limits.{message_size}
use Rattle.message.specs.Message.{Packet}
use Rattle.rules.specs.Send.{encode_all, laid}
use Rattle.runs.specs.Pool.{pool_after, pool_with}

-- the cells behind one, up to those in use
abbrev pub later_cells : List ℕ → ℕ → ℕ → List ℕ
later_cells pool used cell = take (message_size * (used - suc cell)) (drop (message_size * suc cell) pool)

-- the 64 bytes at `at` taken out: what lies up to `end` moves down, and the rest stays
abbrev pub close_gap : List ℕ → ℕ → ℕ → List ℕ
close_gap pool at end = take at pool ++ take (end - (at + message_size)) (drop (at + message_size) pool) ++ drop (end - message_size) pool

-- ---- a delivery

-- the bytes of what was sent are in front of the buffer
pub sent_front : (ps : List Packet) (out : List ℕ) → length (encode_all ps) ≡ message_size * length ps → take (message_size * length ps) (laid ps out) ≡ encode_all ps
unfolding laid
sent_front ps out e = take_at (encode_all ps) (drop (message_size * length ps) out) (message_size * length ps) e

module _ (pool : List ℕ) (used cell : ℕ) (inside : cell < used) (fits : message_size * used ≤ length pool) where
  closed_front : length (take (message_size * cell) pool ++ later_cells pool used cell) ≡ message_size * (used - 1)
  closed_front =
      let a : length (take (message_size * cell) pool) ≡ message_size * cell = length-take-le (message_size * cell) pool (omega arith) in
      let d : length (drop (message_size * suc cell) pool) ≡ length pool - message_size * suc cell = length-drop (message_size * suc cell) pool in
      let b : length (later_cells pool used cell) ≡ message_size * (used - suc cell) = length-take-le (message_size * (used - suc cell)) (drop (message_size * suc cell) pool) (omega arith) in
      length-append (take (message_size * cell) pool) (later_cells pool used cell) ∙ omega arith

  closed : close_gap pool (message_size * cell) (message_size * used) ≡ (take (message_size * cell) pool ++ later_cells pool used cell) ++ drop (message_size * (used - 1)) pool
  closed =
      let e : message_size * used - (message_size * cell + message_size) ≡ message_size * (used - suc cell) = omega arith in
      let f : message_size * cell + message_size ≡ message_size * suc cell = omega arith in
      let g : message_size * used - message_size ≡ message_size * (used - 1) = omega arith in
      rw (e, f, g, append_assoc)

  pub length_closed : length (close_gap pool (message_size * cell) (message_size * used)) ≡ length pool
  length_closed =
      let p : List ℕ = take (message_size * cell) pool ++ later_cells pool used cell in
      let d : length (drop (message_size * (used - 1)) pool) ≡ length pool - message_size * (used - 1) = length-drop (message_size * (used - 1)) pool in
      rw closed (length-append p (drop (message_size * (used - 1)) pool) ∙ omega (arith, closed_front, d))

  -- the gap closed, then what was sent copied in behind
  pub pool_stored : (ps : List Packet) (s : List ℕ) → take (message_size * length ps) s ≡ encode_all ps
      → paste (close_gap pool (message_size * cell) (message_size * used)) (message_size * (used - 1)) s (message_size * length ps) ≡ pool_after used cell ps pool
  unfolding pool_after
  pool_stored ps s sent =
      let p : List ℕ = take (message_size * cell) pool ++ later_cells pool used cell in
      let q : List ℕ = drop (message_size * (used - 1)) pool in
      let front : take (message_size * (used - 1)) (p ++ q) ≡ p = take_at p q (message_size * (used - 1)) closed_front in
      let rest : drop (message_size * (used - 1) + message_size * length ps) (p ++ q) ≡ drop (message_size * (used - 1) + message_size * length ps) pool =
      ap (λ (m : ℕ). drop (m + message_size * length ps) (p ++ q)) (sym closed_front) ∙ drop-append-add p q (message_size * length ps) ∙ drop-drop (message_size * length ps) (message_size * (used - 1)) pool in
      let all : message_size * (used - 1) + message_size * length ps ≡ message_size * (used - 1 + length ps) = omega arith in
      rw (closed, front, rest, sent, all, append_assoc)

-- ---- an echo

-- what was sent copied in behind the cells in use
pub pool_added : (pool : List ℕ) (used : ℕ) (ps : List Packet) (s : List ℕ) → take (message_size * length ps) s ≡ encode_all ps → paste pool (message_size * used) s (message_size * length ps) ≡ pool_with used ps pool
unfolding pool_with
pool_added pool used ps s sent =
    let all : message_size * used + message_size * length ps ≡ message_size * (used + length ps) = omega arith in
    rw (sent, all, append_assoc)
