-- The blocks of a file, handed over one after the other, are refused as reading refuses the file, and then as gathering refuses the unit's number:
-- `file_refused`; and where all are accepted, what the box has is what reading, then gathering, gives: `file_started`. More than 123 blocks are
-- refused, by 1 at the latest: `many_refused`. By induction on the blocks: the reader behind them is the reader behind the joined payloads. Assumes nothing.
use Prim.Native.Nat.{ℕ, zero, suc, ◌+◌, ◌-◌, ◌/◌, ◌≤◌, ◌<◌}
use Rattle.std.specs.Prelude.{◌≡◌, Bool, eqb, replicate}
use Rattle.std.proofs.Math.Path.{refl, sym, ap}
use Rattle.std.proofs.Common.{◌∙◌, zero-add, length-append, drop_at}
use Rattle.std.proofs.Math.Bool.{true, false, cond}
use mathlib.Core.List.{List, [], ◌++◌, append-nil}
use native.Mathlib.Omega.{arith}
use Rattle.std.proofs.Math.ListN.{length, take, drop}
use Rattle.std.proofs.lemmas.List.{length-replicate, replicate-append-replicate}
use Rattle.std.proofs.Math.Seq.{take-append-add}
use borrow.Author.Tests.{ne_eqb}
use Rattle.base.specs.Limits.{block_size, costs_size, stream_size}
use Rattle.base.specs.Put.{put_at}
use Rattle.base.specs.Put.Laws.{put_after}
use Rattle.base.specs.Refusal.{or_else}
use Rattle.base.specs.Refusal.Laws.{or_left, or_right, or_first}
use Rattle.base.specs.Shape.{is_value}
use Rattle.table.specs.Stream.{units_of, sizes_of, stream_refusal, Accepted}
use Rattle.table.specs.StreamLaws.{accepted_units, accepted-sizes_length}
use Rattle.table.specs.Block.{block_refusal, payload_of}
use Rattle.table.specs.File.{size_good, blocks_refusal, joined, stream_of, read_refusal}
use Rattle.table.specs.FileLaws.{good_size, read_stream}
use Rattle.base.specs.Shape.Laws.{value_range}
use Rattle.costs.specs.Gather.{sizes_in, gather_refusal, gather_of, gather_into}
use Rattle.costs.specs.Gathered.{gathered}
use Rattle.costs.specs.Gather.Checks.{refused_10, refused_none, Gatherable, gatherable}
use Rattle.costs.specs.Gather.Laws.{gathered-most}
use Rattle.start.specs.declared.Reader.{Reader}
use Rattle.start.specs.declared.Start.{Start}
use Rattle.start.specs.Byte.{unread, at_end, after, kept}
use Rattle.start.specs.Fold.{after_append, kept_append, length_put, filled_put}
use Rattle.start.specs.Steps.{take_zeros}
use Rattle.start.specs.Answers.{refused_late, by_block}
use Rattle.start.specs.Runs.{based}
use Rattle.start.specs.Refused.{end_refusal_lem, accepted_reader}
use Rattle.start.specs.Theorem.{kept-gathered}
use Rattle.start.specs.Block.{Started, fresh, last_refusal, start_refusal, start_after, accepted_as, refused_by, start_of, start_into, starts_of, starts_into}

-- how many blocks of a file stand before the last
abbrev pub before_last : List ℕ → ℕ
before_last f = length f / block_size - 1

or_assoc : (a b c : ℕ) → or_else (or_else a b) c ≡ or_else a (or_else b c)
or_assoc zero b c = refl
or_assoc (suc a) b c = refl

or_none : (a : ℕ) → or_else a 0 ≡ a
or_none zero = refl
or_none (suc a) = refl

-- ---- one call after the other

-- the refusal that a call answers
answers : (s : Start) (b : List ℕ) (last : Bool) (room : ℕ) → (start_of s b last room).refusal ≡ start_refusal s b last room
unfolding start_of
answers s b last room = go (start_refusal s b last room)
  where
    go : (x : ℕ) → (cond (eqb x 0) (accepted_as last (start_after s b)) (refused_by x s)).refusal ≡ x
    go zero = refl
    go (suc x) = rw (ne_eqb (suc x) 0 (λ z. omega arith)) refl

-- a block that is accepted
accepted_block : (s : Start) (b : List ℕ) (last : Bool) (room : ℕ) → start_refusal s b last room ≡ 0 → start_of s b last room ≡ accepted_as last (start_after s b)
unfolding start_of
accepted_block s b last room e = rw e

module _ (s : Start) (m : ℕ) (f : List ℕ) where
  abbrev b : List ℕ
  b = take block_size f

  -- behind an accepted block the next is handed over
  goes_on : (room : ℕ) → start_refusal s b false room ≡ 0 → starts_of s (suc m) f room ≡ starts_of (start_after s b) m (drop block_size f) room
  unfolding starts_of
  goes_on room e = rw (accepted_block s b false room e) refl

  goes_into : (out : List ℕ) → start_refusal s b false (length out) ≡ 0 → starts_into s (suc m) f out ≡ starts_into (start_after s b) m (drop block_size f) (start_into s b false out)
  unfolding starts_into
  goes_into out e = rw (accepted_block s b false (length out) e) refl

  -- a refused block is the last
  stops : (room x : ℕ) → start_refusal s b false room ≡ suc x → starts_of s (suc m) f room ≡ start_of s b false room
  unfolding starts_of
  stops room x e = rw (answers s b false room ∙ e, ne_eqb (suc x) 0 (λ z. omega arith)) refl

  -- the first refusal is that of the first block, or of those behind it
  first_refusal : (room : ℕ) → (starts_of s (suc m) f room).refusal ≡ or_else (start_refusal s b false room) (starts_of (start_after s b) m (drop block_size f) room).refusal
  first_refusal room = go (start_refusal s b false room) refl
    where
      go : (x : ℕ) → start_refusal s b false room ≡ x → (starts_of s (suc m) f room).refusal ≡ or_else x (starts_of (start_after s b) m (drop block_size f) room).refusal
      go zero e = ap (λ (a : Started). a.refusal) (goes_on room e)
      go (suc x) e = ap (λ (a : Started). a.refusal) (stops room x e) ∙ answers s b false room ∙ e

-- ---- refusals

-- the first refusal of m blocks none of which is the last
unfoldable pub before_refusal : ℕ → ℕ → List ℕ → ℕ
before_refusal k zero f = 0
before_refusal k (suc m) f = or_else (block_refusal k false (take block_size f)) (before_refusal (suc k) m (drop block_size f))

module _ (room : ℕ) (fits : costs_size ≤ room) where
  -- a block that is not the last
  block_refused : (s : Start) (b : List ℕ) → s.blocks < 123 → start_refusal s b false room ≡ block_refusal s.blocks false b
  block_refused s b h = by_block s b false room fits h ∙ or_none (block_refusal s.blocks false b)

  -- more blocks than a table has: the refusal of one of the first 123, or 1
  pub many_refused : (j m : ℕ) (s : Start) (f : List ℕ) → s.blocks + j ≡ 123 → j ≤ m → (starts_of s m f room).refusal ≡ or_else (before_refusal s.blocks j f) 1
  unfolding starts_of before_refusal
  many_refused zero zero s f e h = answers s (take block_size f) true room ∙ refused_late s (take block_size f) true room fits (omega arith)
  many_refused zero (suc m) s f e h =
      let next : ℕ = (starts_of (start_after s (take block_size f)) m (drop block_size f) room).refusal in
      first_refusal s m f room ∙ ap (λ (y : ℕ). or_else y next) (refused_late s (take block_size f) false room fits (omega arith)) ∙ or_first 1 next (λ z. omega arith)
  many_refused (suc j) zero s f e h = absurd (omega arith)
  many_refused (suc j) (suc m) s f e h =
      let b : List ℕ = take block_size f in
      let g : List ℕ = drop block_size f in
      let k : s.blocks + 1 ≡ suc s.blocks = omega arith in
      first_refusal s m f room ∙ ap (λ (y : ℕ). or_else y (starts_of (start_after s b) m g room).refusal) (block_refused s b (omega arith))
      ∙ ap (or_else (block_refusal s.blocks false b)) (many_refused j m (start_after s b) g (omega arith) (omega arith) ∙ ap (λ (y : ℕ). or_else (before_refusal y j g) 1) k)
      ∙ sym (or_assoc (block_refusal s.blocks false b) (before_refusal (suc s.blocks) j g) 1)

  -- m blocks and the last, of 123 at most
  blocks_refused : (m : ℕ) (s : Start) (f : List ℕ) → s.blocks + suc m ≤ 123
      → (starts_of s m f room).refusal ≡ or_else (blocks_refusal s.blocks (suc m) f) (last_refusal s.own (after s.reader (joined (suc m) f)))
  unfolding starts_of blocks_refusal joined
  blocks_refused zero s f h =
      answers s (take block_size f) true room
      ∙ by_block s (take block_size f) true room fits (omega arith)
      ∙ rw append-nil
      (ap (λ (x : ℕ). or_else x (last_refusal s.own (after s.reader (payload_of (take block_size f))))) (sym (or_none (block_refusal s.blocks true (take block_size f)))))
  blocks_refused (suc m) s f h =
      let b : List ℕ = take block_size f in
      let g : List ℕ = drop block_size f in
      let x : ℕ = block_refusal s.blocks false b in
      let k : s.blocks + 1 ≡ suc s.blocks = omega arith in
      rw (ne_eqb (suc m) 0 (λ z. omega arith)) (first_refusal s m f room
      ∙ ap (λ (y : ℕ). or_else y (starts_of (start_after s b) m g room).refusal) (block_refused s b (omega arith))
      ∙ ap (or_else x) (blocks_refused m (start_after s b) g (omega arith))
      ∙ ap (λ (y : ℕ). or_else x (or_else (blocks_refusal y (suc m) g) (last_refusal s.own (after (after s.reader (payload_of b)) (joined (suc m) g))))) k
      ∙ ap (λ (r : Reader). or_else x (or_else (blocks_refusal (suc s.blocks) (suc m) g) (last_refusal s.own r))) (sym (after_append s.reader (payload_of b) (joined (suc m) g)))
      ∙ sym (or_assoc x (blocks_refusal (suc s.blocks) (suc m) g) (last_refusal s.own (after s.reader (payload_of b ++ joined (suc m) g)))))

  -- behind an accepted stream gathering asks for the unit's number alone, as there is room for all costs
  number_refused : (own : ℕ) (s : List ℕ) → Accepted s → cond (is_value (after unread s).n own) 0 10 ≡ gather_refusal s own room
  unfolding Accepted
  number_refused own s ok = ap (λ (r : Reader). cond (is_value r.n own) 0 10) (accepted_reader s ok) ∙ go (is_value (units_of s) own) refl
    where
      not5 : stream_refusal s ≡ 5 → ⊥
      not5 e = omega (arith, e, ok)

      go : (t : Bool) → is_value (units_of s) own ≡ t → cond t 0 10 ≡ gather_refusal s own room
      go false e = refused_10 s own room not5 e
      go true e = let u = value_range (units_of s) own e in refused_none s own room not5 e ok (omega (arith, fits, gathered-most s ok own u.0 u.1))

  -- a file of 1 to 123 blocks: what reading it gives, and then gathering
  pub file_refused : (own : ℕ) (f : List ℕ) → size_good (length f) ≡ true
      → (starts_of (fresh own) (before_last f) f room).refusal ≡ or_else (read_refusal f stream_size) (gather_refusal (stream_of f) own room)
  unfolding read_refusal stream_of
  file_refused own f size =
      let g = good_size (length f) size in
      let e : length f / block_size ≡ suc (before_last f) = omega (arith, g.1) in
      blocks_refused (before_last f) (fresh own) f (omega (arith, g.1, g.2))
      ∙ ap (λ (m : ℕ). or_else (blocks_refusal 0 m f) (last_refusal own (after unread (joined m f)))) (sym e) ∙ whole
    where
      q : ℕ
      q = cond (is_value (after unread (stream_of f)).n own) 0 10

      read : read_refusal f stream_size ≡ or_else (blocks_refusal 0 (length f / block_size) f) (stream_refusal (stream_of f))
      read = rw size refl

      by_number : (x : ℕ) → read_refusal f stream_size ≡ x → or_else x q ≡ or_else x (gather_refusal (stream_of f) own room)
      by_number zero e = number_refused own (stream_of f) (read_stream f stream_size e)
      by_number (suc x) e = refl

      whole : or_else (blocks_refusal 0 (length f / block_size) f) (last_refusal own (after unread (joined (length f / block_size) f))) ≡ or_else (read_refusal f stream_size) (gather_refusal (stream_of f) own room)
      whole =
          ap (λ (x : ℕ). or_else (blocks_refusal 0 (length f / block_size) f) (or_else x q)) (end_refusal_lem (stream_of f))
          ∙ sym (or_assoc (blocks_refusal 0 (length f / block_size) f) (stream_refusal (stream_of f)) q)
          ∙ ap (λ (x : ℕ). or_else x q) (sym read) ∙ by_number (read_refusal f stream_size) refl

-- ---- what is gathered

-- one block behind another
block_taken : (s : Start) (b : List ℕ) (out : List ℕ) (last : Bool) → start_refusal s b last (length out) ≡ 0 → s.count + length (kept s.own s.reader (payload_of b)) ≤ costs_size → costs_size ≤ length out
    → ((start_after s b).count ≡ s.count + length (kept s.own s.reader (payload_of b))) × (start_into s b last out ≡ put_at out s.count (kept s.own s.reader (payload_of b)))
unfolding start_into
block_taken s b out last e h fits = (
  omega arith,
  rw e (filled_put s.own s.reader s.count (payload_of b) out (omega arith)),
)

-- how far a box is behind m blocks and the last, and what the lent costs are
record Taken (s : Start) (m : ℕ) (f out : List ℕ) : Type 0 where
  pub long : (starts_of s m f (length out)).length ≡ s.count + length (kept s.own s.reader (joined (suc m) f))
  pub read : (starts_of s m f (length out)).start.reader ≡ after s.reader (joined (suc m) f)
  pub costs : starts_into s m f out ≡ put_at out s.count (kept s.own s.reader (joined (suc m) f))

blocks_taken : (m : ℕ) (s : Start) (f out : List ℕ) → costs_size ≤ length out → (starts_of s m f (length out)).refusal ≡ 0
    → s.count + length (kept s.own s.reader (joined (suc m) f)) ≤ costs_size → Taken s m f out
unfolding starts_of starts_into joined
blocks_taken zero s f out fits e h =
    let b : List ℕ = take block_size f in
    let x : start_refusal s b true (length out) ≡ 0 = sym (answers s b true (length out)) ∙ e in
    let p : payload_of b ++ [] ≡ payload_of b = append-nil (payload_of b) in
    let k = block_taken s b out true x (rw p at h) fits in
    let a = accepted_block s b true (length out) x in
    record {
      long = ap (λ (y : Started). y.length) a ∙ k.0 ∙ ap (λ (y : List ℕ). s.count + length (kept s.own s.reader y)) (sym p);
      read = ap (λ (y : Started). y.start.reader) a ∙ ap (after s.reader) (sym p);
      costs = k.1 ∙ ap (λ (y : List ℕ). put_at out s.count (kept s.own s.reader y)) (sym p);
    }
blocks_taken (suc m) s f out fits e h =
    let b : List ℕ = take block_size f in
    let g : List ℕ = drop block_size f in
    let t : Start = start_after s b in
    let k : List ℕ = kept s.own s.reader (payload_of b) in
    let l : List ℕ = kept s.own t.reader (joined (suc m) g) in
    let all : kept s.own s.reader (payload_of b ++ joined (suc m) g) ≡ k ++ l = kept_append s.own s.reader (payload_of b) (joined (suc m) g) in
    let sum : length (k ++ l) ≡ length k + length l = length-append k l in
    let both : s.count + (length k + length l) ≤ costs_size = omega (arith, h, ap length all, sum) in
    let first : or_else (start_refusal s b false (length out)) (starts_of t m g (length out)).refusal ≡ 0 = sym (first_refusal s m f (length out)) ∙ e in
    let x : start_refusal s b false (length out) ≡ 0 = or_left (start_refusal s b false (length out)) _ first in
    let c = block_taken s b out false x (omega arith) fits in
    let o : List ℕ = put_at out s.count k in
    let same : length o ≡ length out = length_put out k s.count (omega arith) in
    let i = blocks_taken m t g o (omega arith) (rw same (or_right (start_refusal s b false (length out)) _ first)) (rw c.0 (omega arith)) in
    record {
      long = ap (λ (a : Started). a.length) (goes_on s m f (length out) x) ∙ (rw same at i.long) ∙ rw (c.0, all, sum) (omega arith);
      read = ap (λ (a : Started). a.start.reader) (goes_on s m f (length out) x) ∙ (rw same at i.read) ∙ sym (after_append s.reader (payload_of b) (joined (suc m) g));
      costs = goes_into s m f out x ∙ ap (starts_into t m g) c.1 ∙ i.costs ∙ rw (c.0, all) (put_after out k l s.count (omega arith));
    }

-- ---- the theorem

-- the sizes of an accepted stream, as an array
zeros-part : (a b : ℕ) → take a (replicate {A = ℕ} (a + b) 0) ≡ drop b (replicate {A = ℕ} (b + a) 0)
zeros-part a b =
    take_zeros a b ∙ sym (ap (drop b) (sym (replicate-append-replicate {A = ℕ} b a 0)) ∙ drop_at (replicate b 0) (replicate a 0) b (length-replicate b 0))

sizes_array : (s : List ℕ) → Accepted s → sizes_of s ++ drop (units_of s) (replicate 16 0) ≡ sizes_in s
unfolding sizes_in
sizes_array s ok =
    let n : ℕ = units_of s in
    let r : ℕ = 16 - n in
    let h = accepted_units s ok in
    let l : length (sizes_of s) ≡ n = accepted-sizes_length s ok in
    let a : r + n ≡ 16 = omega (arith, h) in
    let c : n + r ≡ 16 = omega (arith, h) in
    let z : take r (replicate {A = ℕ} 16 0) ≡ drop n (replicate {A = ℕ} 16 0) = rw (a, c) at (zeros-part r n) in
    sym (ap (λ (k : ℕ). take k (sizes_of s ++ replicate 16 0)) (sym c) ∙ ap (λ (k : ℕ). take (k + r) (sizes_of s ++ replicate 16 0)) (sym l) ∙ take-append-add (sizes_of s) (replicate 16 0) r ∙ ap (λ (x : List ℕ). sizes_of s ++ x) z)

-- what a box has behind a file whose blocks were all accepted: n, the sizes and the costs of its unit, as reading, then gathering, gives them
pub record Begun (own : ℕ) (f out : List ℕ) : Type 0 where
  pub units : (starts_of (fresh own) (before_last f) f (length out)).start.reader.n ≡ units_of (stream_of f)
  pub sizes : (starts_of (fresh own) (before_last f) f (length out)).start.reader.sizes ≡ sizes_in (stream_of f)
  pub long : (starts_of (fresh own) (before_last f) f (length out)).length ≡ (gather_of (stream_of f) own (length out)).length
  pub costs : starts_into (fresh own) (before_last f) f out ≡ gather_into (stream_of f) own out

module _ (own : ℕ) (f out : List ℕ) (fits : costs_size ≤ length out) (size : size_good (length f) ≡ true) (none : (starts_of (fresh own) (before_last f) f (length out)).refusal ≡ 0) where
  abbrev stream : List ℕ
  stream = stream_of f

  gathers : gather_refusal stream own (length out) ≡ 0
  gathers = or_right (read_refusal f stream_size) _ (sym (file_refused (length out) fits own f size) ∙ none)

  able : Gatherable stream own (length out)
  able = gatherable stream own (length out) gathers

  all_joined : joined (suc (before_last f)) f ≡ stream
  unfolding stream_of
  all_joined = let g = good_size (length f) size in let k : suc (before_last f) ≡ length f / block_size = omega (arith, g.1) in ap (λ (m : ℕ). joined m f) k

  keeps : kept own unread stream ≡ gathered stream own
  keeps = go own able.unit
    where
      go : (own : ℕ) → (1 ≤ own) × (own ≤ units_of stream) → kept own unread stream ≡ gathered stream own
      go zero h = absurd (omega (arith, h.0))
      go (suc k) h = kept-gathered stream able.accepted k (omega (arith, h.1))

  taken : Taken (fresh own) (before_last f) f out
  taken = blocks_taken (before_last f) (fresh own) f out fits none (rw (all_joined, keeps) (omega (arith, gathered-most stream able.accepted own able.unit.0 able.unit.1)))

  read : (starts_of (fresh own) (before_last f) f (length out)).start.reader ≡ at_end (based (units_of stream) (sizes_of stream ++ drop (units_of stream) (replicate 16 0)) 0)
  read = taken.read ∙ ap (after unread) all_joined ∙ accepted_reader stream able.accepted

  pub file_started : Begun own f out
  file_started = record {
    units = ap (λ (r : Reader). r.n) read;
    sizes = ap (λ (r : Reader). r.sizes) read ∙ sizes_array stream able.accepted;
    long = taken.long ∙ rw (all_joined, keeps, gathers) (zero-add (length (gathered stream own)));
    costs = taken.costs ∙ rw (all_joined, keeps, gathers, zero-add) refl;
  }
