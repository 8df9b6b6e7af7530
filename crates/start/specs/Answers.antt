-- What the call for a block answers, by the tests that the code makes. Each by taking the definition's tests apart. Assumes nothing.
use Rattle.std.specs.Prelude.{ℕ, zero, suc, ◌≤◌, ◌<◌, ◌≡◌, refl, Bool, cond, List, length, Result, Ok, Err}
use Rattle.std.proofs.Common.{sym, ◌∙◌, arith}
use borrow.Author.Tests.{lt-ltb, le-ltb, ne_eqb}
use Rattle.base.specs.Limits.{costs_size, payload_size}
use Rattle.base.specs.Refusal.{or_else}
use Rattle.base.specs.Refusal.Laws.{or_first}
use Rattle.table.specs.Block.{block_refusal, payload_of}
use Rattle.table.specs.BlockLaws.{block_payload_length, block_most_lem}
use Rattle.start.specs.declared.Reader.{Reader}
use Rattle.start.specs.declared.Start.{Start}
use Rattle.start.specs.Byte.{after, filled}
use Rattle.start.specs.Block.{last_refusal, start_refusal, start_after, unless, answer_of, start_of, start_into}

-- the payload of an accepted block
pub payload_small : (k : ℕ) (last : Bool) (b : List ℕ) → block_refusal k last b ≡ 0 → length (payload_of b) ≤ payload_size
payload_small k last b e = omega (arith, block_payload_length k last b e, block_most_lem k last b e)

-- a number that is not 0 is the refusal
pub unless_ok : (x : ℕ) → Ok tt ≡ unless x → x ≡ 0
unless_ok zero e = refl
unless_ok (suc x) e = cc

pub unless_err : (x y : ℕ) → Err y ≡ unless x → (x ≡ y) × (y ≡ 0 → ⊥)
unless_err zero y e = cc
unless_err (suc x) y e = let q : y ≡ suc x = cc in (sym q, λ z. omega arith)

module _ (s : Start) (block : List ℕ) (last : Bool) (room : ℕ) where
  -- ---- the refusal, test by test

  pub refused_room : room < costs_size → start_refusal s block last room ≡ 13
  unfolding start_refusal
  refused_room h = rw (lt-ltb room costs_size h)

  module _ (fits : costs_size ≤ room) where
    -- more blocks than a table has
    pub refused_late : 123 ≤ s.blocks → start_refusal s block last room ≡ 1
    unfolding start_refusal
    refused_late h = rw (le-ltb room costs_size fits, le-ltb s.blocks 123 h)

    module _ (few : s.blocks < 123) where
      pub by_block : start_refusal s block last room ≡ or_else (block_refusal s.blocks last block) (cond last (last_refusal s.own (after s.reader (payload_of block))) 0)
      unfolding start_refusal
      by_block = rw (le-ltb room costs_size fits, lt-ltb s.blocks 123 few)

      pub refused_block : (x : ℕ) → x ≡ block_refusal s.blocks last block → (x ≡ 0 → ⊥) → start_refusal s block last room ≡ x
      refused_block x e h = by_block ∙ or_first (block_refusal s.blocks last block) _ (λ z. h (e ∙ z)) ∙ sym e

      -- what the last block tells
      pub by_last : block_refusal s.blocks last block ≡ 0 → (r : Reader) → r ≡ after s.reader (payload_of block) → start_refusal s block last room ≡ cond last (last_refusal s.own r) 0
      by_last good r e = by_block ∙ rw (good, e) refl

-- ---- the answer

module _ (s : Start) (block : List ℕ) (last : Bool) (out : List ℕ) where
  abbrev pub Gives : Result ℕ ℕ → Start → List ℕ → Type 0
  Gives answer state costs = (answer ≡ answer_of (start_of s block last (length out))) × (state ≡ (start_of s block last (length out)).start) × (costs ≡ start_into s block last out)

  pub refuses : (x : ℕ) → start_refusal s block last (length out) ≡ x → (x ≡ 0 → ⊥) → Gives (Err x) s out
  unfolding start_of start_into
  refuses x e h = simp (e, ne_eqb x 0 h) (refl, refl, refl)

  pub accepts : start_refusal s block last (length out) ≡ 0
      → Gives (Ok (cond last (start_after s block).count 0)) (start_after s block) (filled s.own s.reader s.count (payload_of block) out)
  unfolding start_of start_into
  accepts e = simp e (refl, refl, refl)
