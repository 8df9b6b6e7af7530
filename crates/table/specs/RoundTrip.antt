-- Reading and writing undo each other. Over the definitions that the contracts of `read` and `write` cite:
-- 1. what an accepted writing left in any buffer is accepted, and reads back as the stream (reads_back; accepted_back, stream_back);
-- 2. what an accepted reading left in any buffer is written again as the file, byte for byte (writes_back; file_back);
-- 3. two accepted files with one stream are equal (one_file).
-- Each by recursion on the number of blocks, a block at a time (BlockLaws). Assumes nothing.
use Prim.Native.Nat.{ℕ, zero, suc, ◌+◌, ◌*◌, ◌-◌, ◌/◌, ◌%◌, ◌≤◌, ◌<◌}
use Rattle.std.proofs.Common.{arith, append-nil, ◌∙◌, length-take, length-drop, length-append, take-append-drop, take_at, drop_at, take_all, leb-true, eq-eqb, ne_eqb, le-leb}
use Rattle.std.specs.Prelude.{true, List, [], ◌∷◌, ◌++◌, ◌≡◌, eqb, leb, take, drop}
use Rattle.std.proofs.Math.Path.{refl, sym, ap}
use Rattle.std.proofs.Math.Dec.{eqb-suc-zero}
use Rattle.std.proofs.Math.ListN.{length}
use Rattle.base.specs.Limits.{file_size, stream_size, block_size, payload_size}
use Rattle.base.specs.Bytes.Laws.{AllBytes, bytes_take, bytes_drop}
use Rattle.base.specs.Shape.Laws.{and_left}
use Rattle.table.specs.Stream.{stream_refusal, Accepted}
use Rattle.table.specs.StreamLaws.{accepted-most, accepted_length}
use Rattle.table.specs.Block.{payload_count, payload_of, count_good, blocks_for}
use Rattle.table.specs.Written.{block_of, file_from, file_of}
use Rattle.table.specs.BlockLaws.{block_count, block_most_lem, block_payload_length, written_good, written-payload, written_again}
use Rattle.table.specs.File.{answer, leaves, size_good, blocks_refusal, joined, stream_of, read_refusal, read_of, read_into, store_refusal, store_of, store_into}
use Rattle.table.specs.FileLaws.{first_good, rest_good, full, good_size, block_long, written_length_lem, take_most, read_size, read_blocks, read_stream, by_stream, gives-accepted, write-accepted, write-stream}

-- the file passes 1, 4, 2, 3, 5, 6, 7
unfoldable pub AcceptedFile : List ℕ → Type 0
AcceptedFile f = read_refusal f stream_size ≡ 0

-- the file that a writing of s left in a lent buffer, and the stream that a reading of f left: as many bytes as it said
abbrev pub file_left : List ℕ → List ℕ → List ℕ
file_left s out = take (store_of s (length out)).length (store_into s out)

abbrev pub stream_left : List ℕ → List ℕ → List ℕ
stream_left f out = take (read_of f (length out)).length (read_into f out)

-- what was given stands in front of what was there
pub front_of : (refusal : ℕ) (bytes out : List ℕ) → refusal ≡ 0 → take (answer refusal (length bytes)).length (leaves refusal bytes out) ≡ bytes
front_of refusal bytes out z = rw z (take_at bytes (drop (length bytes) out) (length bytes) refl)

-- ---- a stream written and read back

-- the first block of the blocks of s, and the rest
first_of : (k m : ℕ) (s : List ℕ) → take block_size (file_from k (suc m) s) ≡ block_of k (take payload_size s)
unfolding file_from
first_of k m s = take_at (block_of k (take payload_size s)) (file_from (suc k) m (drop payload_size s)) block_size (block_long k s)

rest_of : (k m : ℕ) (s : List ℕ) → drop block_size (file_from k (suc m) s) ≡ file_from (suc k) m (drop payload_size s)
unfolding file_from
rest_of k m s = drop_at (block_of k (take payload_size s)) (file_from (suc k) m (drop payload_size s)) block_size (block_long k s)

-- the count of the first of m + 1 blocks fits its place
count_fits : (m : ℕ) (s : List ℕ) → payload_size * m < length s → length s ≤ payload_size * suc m → count_good (eqb m 0) (length (take payload_size s)) ≡ true
count_fits zero s l h =
    let a : 1 ≤ length (take payload_size s) = simp length-take (omega arith) in
    simp (le-leb 1 (length (take payload_size s)) a, le-leb (length (take payload_size s)) payload_size (take_most s))
count_fits (suc m) s l h =
    let a : length (take payload_size s) ≡ payload_size = simp length-take (omega arith) in
    rw (eqb-suc-zero m, eq-eqb (length (take payload_size s)) payload_size a)

-- m + 1 blocks that carry s are accepted
blocks_accepted : (m k : ℕ) (s : List ℕ) → payload_size * m < length s → length s ≤ payload_size * suc m → k + m < 65536 → blocks_refusal k (suc m) (file_from k (suc m) s) ≡ 0
unfolding blocks_refusal
blocks_accepted zero k s l h b =
    rw (first_of k zero s, written_good k (take payload_size s) (take_most s) (omega arith) (eqb zero 0) (count_fits zero s l h))
blocks_accepted (suc m) k s l h b =
    let d : length (drop payload_size s) ≡ length s - payload_size = length-drop payload_size s in
    rw (first_of k (suc m) s, written_good k (take payload_size s) (take_most s) (omega arith) (eqb (suc m) 0) (count_fits (suc m) s l h), rest_of k (suc m) s)
    (blocks_accepted m (suc k) (drop payload_size s) (omega arith) (omega arith) (omega arith))

-- and their payloads join to s
joins_back : (m k : ℕ) (s : List ℕ) → length s ≤ payload_size * m → joined m (file_from k m s) ≡ s
unfolding joined
joins_back zero k [] h = refl
joins_back zero k (x ∷ s) h = absurd (omega arith)
joins_back (suc m) k s h =
    let d : length (drop payload_size s) ≡ length s - payload_size = length-drop payload_size s in
    rw (first_of k m s, written-payload k (take payload_size s) (take_most s), rest_of k m s, joins_back m (suc k) (drop payload_size s) (omega arith))
    (take-append-drop payload_size s)

module _ (s : List ℕ) (ok : Accepted s) where
  -- 1 to 123 blocks
  blocks : (1 ≤ blocks_for (length s)) × (blocks_for (length s) ≤ 123)
  blocks = let m = accepted-most s ok in (omega (arith, accepted_length s ok), omega arith)

  written_blocks : length (file_of s) / block_size ≡ blocks_for (length s)
  written_blocks = rw (written_length_lem s) (omega arith)

  written-bytes : size_good (length (file_of s)) ≡ true
  written-bytes =
      let b = blocks in
      let l : length (file_of s) ≡ 0 → ⊥ = λ e. omega (arith, written_length_lem s) in
      let m : length (file_of s) % block_size ≡ 0 = omega (arith, written_length_lem s) in
      let h : length (file_of s) ≤ file_size = omega (arith, written_length_lem s) in
      simp (ne_eqb (length (file_of s)) 0 l, eq-eqb (length (file_of s) % block_size) 0 m, le-leb (length (file_of s)) file_size h)

  written_passes : blocks_refusal 0 (length (file_of s) / block_size) (file_of s) ≡ 0
  unfolding file_of
  written_passes =
      let m : ℕ = blocks_for (length s) - 1 in
      let e : blocks_for (length s) ≡ suc m = omega (arith, blocks) in
      rw (written_blocks, e) (blocks_accepted m 0 s (omega (arith, blocks)) (omega (arith, blocks)) (omega (arith, blocks)))

  -- the stream of what is written is what was to be written
  pub stream_back : stream_of (file_of s) ≡ s
  unfolding stream_of file_of
  stream_back = rw written_blocks (joins_back (blocks_for (length s)) 0 s (omega arith))

  refusal_none : (room : ℕ) → stream_size ≤ room → read_refusal (file_of s) room ≡ 0
  unfolding Accepted
  refusal_none room h = sym (by_stream (file_of s) room h written-bytes written_passes) ∙ ap stream_refusal stream_back ∙ ok

  pub accepted_back : AcceptedFile (file_of s)
  unfolding AcceptedFile
  accepted_back = refusal_none stream_size (omega arith)

  -- so reading it, into any buffer that is long enough, gives the stream in front of what was there
  pub reads_file : (out : List ℕ) → stream_size ≤ length out → (read_of (file_of s) (length out) ≡ record { refusal = 0; length = length s }) × (read_into (file_of s) out ≡ s ++ drop (length s) out)
  unfolding read_of read_into
  reads_file out h =
      let g = gives-accepted (read_refusal (file_of s) (length out)) 0 (sym (refusal_none (length out) h)) (length (stream_of (file_of s))) (stream_of (file_of s)) out refl in
      (sym g.0 ∙ rw stream_back, sym g.1 ∙ rw stream_back)

-- what an accepted writing left in any buffer reads back as the stream
pub reads_back : (s file out : List ℕ) → (store_of s (length file)).refusal ≡ 0 → stream_size ≤ length out
    → (read_of (file_left s file) (length out) ≡ record { refusal = 0; length = length s }) × (read_into (file_left s file) out ≡ s ++ drop (length s) out)
unfolding store_of store_into
reads_back s file out z h =
    rw (front_of (store_refusal s (length file)) (file_of s) file z) (reads_file s (write-stream s (length file) z) out h)

-- ---- a file read and written again

read_accepted_file : (f : List ℕ) (room : ℕ) → read_refusal f room ≡ 0 → AcceptedFile f
unfolding AcceptedFile Accepted
read_accepted_file f room e = sym (by_stream f stream_size (omega arith) (read_size f room e) (read_blocks f room e)) ∙ read_stream f room e

stream_passes : (f : List ℕ) → read_refusal f stream_size ≡ 0 → stream_refusal (stream_of f) ≡ 0
unfolding Accepted
stream_passes f e = read_stream f stream_size e

-- 506 bytes from the joined payloads on are the first payload, and behind them the others
front : (m k : ℕ) (f : List ℕ) → blocks_refusal k (suc m) f ≡ 0 → take payload_size (payload_of (take block_size f) ++ joined m (drop block_size f)) ≡ payload_of (take block_size f)
unfolding joined
front zero k f ok =
    let g = first_good k zero f ok in
    let h : length (payload_of (take block_size f)) ≤ payload_size = omega (arith, block_payload_length k (eqb zero 0) (take block_size f) g, block_most_lem k (eqb zero 0) (take block_size f) g) in
    ap (λ (l : List ℕ). take payload_size l) (append-nil (payload_of (take block_size f))) ∙ take_all payload_size (payload_of (take block_size f)) h
front (suc m) k f ok = take_at (payload_of (take block_size f)) (joined (suc m) (drop block_size f)) payload_size (full k m f ok)

behind : (m k : ℕ) (f : List ℕ) → blocks_refusal k (suc m) f ≡ 0
    → file_from (suc k) m (drop payload_size (payload_of (take block_size f) ++ joined m (drop block_size f))) ≡ file_from (suc k) m (joined m (drop block_size f))
unfolding file_from
behind zero k f ok = refl
behind (suc m) k f ok = ap (λ (l : List ℕ). file_from (suc k) (suc m) l) (drop_at (payload_of (take block_size f)) (joined (suc m) (drop block_size f)) payload_size (full k m f ok))

blocks_again : (m k : ℕ) (f : List ℕ) → length f ≡ block_size * m → blocks_refusal k m f ≡ 0 → AllBytes f → file_from k m (joined m f) ≡ f
unfolding file_from joined
blocks_again zero k [] l ok bytes = refl
blocks_again zero k (x ∷ f) l ok bytes = absurd (omega arith)
blocks_again (suc m) k f l ok bytes =
    let d : length (drop block_size f) ≡ block_size * m = length-drop block_size f ∙ omega arith in
    let r = blocks_again m (suc k) (drop block_size f) d (rest_good k m f ok) (bytes_drop block_size f bytes) in
    let w = written_again k (eqb m 0) (take block_size f) (first_good k m f ok) (bytes_take block_size f bytes) in
    rw (front m k f ok, behind m k f ok, w, r) (take-append-drop block_size f)

-- the joined payloads of m + 1 blocks need m + 1 blocks
last_some : (k : ℕ) (f : List ℕ) → blocks_refusal k 1 f ≡ 0 → (1 ≤ length (payload_of (take block_size f))) × (length (payload_of (take block_size f)) ≤ payload_size)
last_some k f ok =
    let g = first_good k zero f ok in
    let c = and_left (leb 1 (payload_count (take block_size f))) (leb (payload_count (take block_size f)) payload_size) (block_count k (eqb zero 0) (take block_size f) g) in
    let l = block_payload_length k (eqb zero 0) (take block_size f) g in
    let m = block_most_lem k (eqb zero 0) (take block_size f) g in
    (omega (arith, leb-true 1 (payload_count (take block_size f)) c), omega arith)

joined-fits : (m k : ℕ) (f : List ℕ) → blocks_refusal k (suc m) f ≡ 0 → (payload_size * m < length (joined (suc m) f)) × (length (joined (suc m) f) ≤ payload_size * suc m)
unfolding joined
joined-fits zero k f ok = rw (append-nil (payload_of (take block_size f))) (let s = last_some k f ok in (omega arith, omega arith))
joined-fits (suc m) k f ok =
    let r = joined-fits m (suc k) (drop block_size f) (rest_good k (suc m) f ok) in
    let e = length-append (payload_of (take block_size f)) (joined (suc m) (drop block_size f)) in
    let g = full k m f ok in
    (omega arith, omega arith)

module _ (f : List ℕ) (ok : AcceptedFile f) (bytes : AllBytes f) where
  passes : read_refusal f stream_size ≡ 0
  unfolding AcceptedFile
  passes = ok

  size : (length f ≡ block_size * (length f / block_size)) × (1 ≤ length f / block_size) × (length f / block_size ≤ 123)
  size = good_size (length f) (read_size f stream_size passes)

  same_blocks : blocks_for (length (stream_of f)) ≡ length f / block_size
  unfolding stream_of
  same_blocks =
      let m : ℕ = length f / block_size - 1 in
      let e : length f / block_size ≡ suc m = omega (arith, size) in
      let g : blocks_refusal 0 (suc m) f ≡ 0 = rw e at (read_blocks f stream_size passes) in
      let h = joined-fits m 0 f g in
      rw e (omega (arith, h))

  -- the file of the stream that was read is the file
  pub file_back : file_of (stream_of f) ≡ f
  unfolding file_of stream_of
  file_back = rw same_blocks (blocks_again (length f / block_size) 0 f size.0 (read_blocks f stream_size passes) bytes)

  -- so writing that stream, into any buffer that is long enough, gives the same bytes in front of what was there
  pub writes_stream : (out : List ℕ) → length f ≤ length out
      → (store_of (stream_of f) (length out) ≡ record { refusal = 0; length = length f }) × (store_into (stream_of f) out ≡ f ++ drop (length f) out)
  unfolding store_of store_into
  writes_stream out h =
      let l : block_size * blocks_for (length (stream_of f)) ≡ length f = rw same_blocks (sym size.0) in
      let r = write-accepted (stream_of f) (length out) (stream_passes f passes) (omega arith) in
      let g = gives-accepted (store_refusal (stream_of f) (length out)) 0 r (length (file_of (stream_of f))) (file_of (stream_of f)) out refl in
      (sym g.0 ∙ rw file_back, sym g.1 ∙ rw file_back)

-- what an accepted reading left in any buffer is written again as the file
pub writes_back : (f stream out : List ℕ) → (read_of f (length stream)).refusal ≡ 0 → AllBytes f → length f ≤ length out
    → (store_of (stream_left f stream) (length out) ≡ record { refusal = 0; length = length f }) × (store_into (stream_left f stream) out ≡ f ++ drop (length f) out)
unfolding read_of read_into
writes_back f stream out z bytes h =
    rw (front_of (read_refusal f (length stream)) (stream_of f) stream z) (writes_stream f (read_accepted_file f (length stream) z) bytes out h)

-- ---- two accepted files with one stream are equal

pub one_file : (f g : List ℕ) → AcceptedFile f → AcceptedFile g → AllBytes f → AllBytes g → stream_of f ≡ stream_of g → f ≡ g
one_file f g okf okg bf bg e = sym (file_back f okf bf) ∙ ap file_of e ∙ file_back g okg bg
