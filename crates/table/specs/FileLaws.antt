-- Files: the turns of the loop over blocks, where each byte of the joined stream stands, and the answers of reading and writing.
-- By recursion on the number of blocks, the first block apart from the rest.
-- In order: a turn over the blocks; accepted blocks; the joined stream; its view; the answers of reading; payloads copied; blocks written; the answers of writing.
-- Assumes nothing.
use Prim.Native.Nat.{ℕ, zero, suc, ◌+◌, ◌*◌, ◌-◌, ◌/◌, ◌%◌, ◌≤◌, ◌<◌, min}
use Rattle.std.proofs.Common.{zero-add, add-zero, add_assoc, ◌∙◌, length-take, length-drop, length-append, take_all, get_or-take, get_or-drop, get_or-append-add}
use Rattle.std.proofs.Math.Numerals.{add-one}
use native.Mathlib.Omega.{arith}
use Rattle.std.specs.Prelude.{Bool, true, false, cond, ◌&&◌, not, ◌≡◌, refl, eqb, leb, ltb, length, get_or, take, drop}
use Rattle.std.proofs.lemmas.Bool.{false≢true}
use mathlib.Core.List.{List, [], ◌∷◌, ◌++◌, append-nil, append_assoc}
use Rattle.std.proofs.Math.Path.{sym, ap}
use Rattle.std.proofs.Math.Dec.{eqb-suc-zero}
use Rattle.std.proofs.Math.ListN.{get_or-append}
use Rattle.std.proofs.Math.Seq.{drop-drop}
use borrow.Author.Tests.{eqb-true, eqb-false, leb-true, leb-false, eq-eqb, ne_eqb, lt-ltb, le-ltb, ltb-true, ltb-false}
use Rattle.base.specs.declared.Length.{Length}
use Rattle.base.specs.Limits.{file_size, stream_size, block_size, payload_size}
use Rattle.base.specs.Bytes.{u16_at}
use Rattle.base.specs.Put.{put_at}
use Rattle.base.specs.Put.Laws.{put_next, put_behind}
use Rattle.base.specs.Refusal.{or_else}
use Rattle.base.specs.Refusal.Laws.{or_left, or_right, or_first}
use Rattle.table.specs.Stream.{costs_good, stream_refusal, Accepted}
use Rattle.table.specs.StreamLaws.{costs_same, accepted-most}
use Rattle.table.specs.Block.{payload_count, payload_of, block_refusal, blocks_for}
use Rattle.table.specs.Written.{block_of, file_from, file_of}
use Rattle.table.specs.BlockLaws.{block_size_lem, block_count, block_most_lem, block_payload_length, written_size}
use Rattle.table.specs.File.{answer, leaves, size_good, blocks_refusal, joined, stream_of, read_refusal, store_refusal}
use Rattle.table.specs.View.{place_in_file, Viewed}

-- ---- a turn of a loop over m blocks, at block k, and its end: w is what all of them give

module _ {w : ℕ} (f : List ℕ) (k m : ℕ) (inv : w ≡ blocks_refusal k (m - k) (drop (block_size * k) f)) where
  blocks_step : k < m → w ≡ or_else (block_refusal k (eqb (m - (k + 1)) 0) (take block_size (drop (block_size * k) f))) (blocks_refusal (k + 1) (m - (k + 1)) (drop (block_size * (k + 1)) f))
  unfolding blocks_refusal
  blocks_step h =
      let e : m - k ≡ suc (m - (k + 1)) = omega arith in
      let d : block_size * k + block_size ≡ block_size * (k + 1) = omega arith in
      inv ∙ rw (e, drop-drop block_size (block_size * k) f, d, add-one k)

  pub blocks_bad : k < m → (r : ℕ) → r ≡ block_refusal k (eqb (m - (k + 1)) 0) (take block_size (drop (block_size * k) f)) → (r ≡ 0 → ⊥) → r ≡ w
  blocks_bad h r e n = sym (blocks_step h ∙ rw (← e) (or_first r (blocks_refusal (k + 1) (m - (k + 1)) (drop (block_size * (k + 1)) f)) n))

  pub blocks_next : k < m → 0 ≡ block_refusal k (eqb (m - (k + 1)) 0) (take block_size (drop (block_size * k) f)) → w ≡ blocks_refusal (k + 1) (m - (k + 1)) (drop (block_size * (k + 1)) f)
  blocks_next h e = blocks_step h ∙ rw (← e)

  pub blocks_end : m ≤ k → 0 ≡ w
  unfolding blocks_refusal
  blocks_end h = let e : m - k ≡ 0 = omega arith in sym (inv ∙ rw e)

-- block k of m is the last
pub is_last : (k m : ℕ) → k < m → eqb (k + 1) m ≡ eqb (m - (k + 1)) 0
is_last k m h = go (eqb (k + 1) m) refl
  where
    go : (x : Bool) → eqb (k + 1) m ≡ x → eqb (k + 1) m ≡ eqb (m - (k + 1)) 0
    go true e = let q = eqb-true (k + 1) m e in e ∙ sym (eq-eqb (m - (k + 1)) 0 (omega arith))
    go false e = e ∙ sym (ne_eqb (m - (k + 1)) 0 (λ z. eqb-false (k + 1) m e (omega arith)))

-- what reading block k of m alone gives, its bytes taken by their end
pub block_turn : (f : List ℕ) (k m n r : ℕ) → k < m → n ≡ block_size → r ≡ block_refusal k (eqb (k + 1) m) (take n (drop (block_size * k) f))
    → r ≡ block_refusal k (eqb (m - (k + 1)) 0) (take block_size (drop (block_size * k) f))
block_turn f k m n r h l e = e ∙ rw (l, is_last k m h)

-- ---- accepted blocks: the first, and the rest

module _ (k m : ℕ) (f : List ℕ) (ok : blocks_refusal k (suc m) f ≡ 0) where
  pub first_good : block_refusal k (eqb m 0) (take block_size f) ≡ 0
  unfolding blocks_refusal
  first_good = or_left (block_refusal k (eqb m 0) (take block_size f)) (blocks_refusal (suc k) m (drop block_size f)) ok

  pub rest_good : blocks_refusal (suc k) m (drop block_size f) ≡ 0
  unfolding blocks_refusal
  rest_good = or_right (block_refusal k (eqb m 0) (take block_size f)) (blocks_refusal (suc k) m (drop block_size f)) ok

  first_count : payload_count (take block_size f) ≡ u16_at f 2
  first_count = rw (get_or-take block_size f 2 0 (omega arith), get_or-take block_size f 3 0 (omega arith))

  first_length : length (payload_of (take block_size f)) ≡ payload_count (take block_size f)
  first_length = block_payload_length k (eqb m 0) (take block_size f) first_good

  first-most : payload_count (take block_size f) ≤ payload_size
  first-most = block_most_lem k (eqb m 0) (take block_size f) first_good

  -- byte j of the first payload stands behind the block's first four bytes
  first_at : (j : ℕ) → j < payload_count (take block_size f) → get_or (payload_of (take block_size f)) j 0 ≡ get_or f (4 + j) 0
  first_at j h =
      let l : 4 + j < block_size = omega (arith, first-most) in
      get_or-take (payload_count (take block_size f)) (drop 4 (take block_size f)) j 0 h ∙ get_or-drop 4 (take block_size f) j 0 ∙ get_or-take block_size f (4 + j) 0 l

-- a block that isn't the last is full
pub full : (k m : ℕ) (f : List ℕ) → blocks_refusal k (suc (suc m)) f ≡ 0 → length (payload_of (take block_size f)) ≡ payload_size
full k m f ok =
    let g : block_refusal k false (take block_size f) ≡ 0 = rw (eqb-suc-zero m) at (first_good k (suc m) f ok) in
    first_length k (suc m) f ok ∙ eqb-true (payload_count (take block_size f)) payload_size (block_count k false (take block_size f) g)

-- ---- the joined stream of m + 1 accepted blocks

u16_drop : (n x : ℕ) (f : List ℕ) → u16_at (drop n f) x ≡ u16_at f (n + x)
u16_drop n x f = rw (get_or-drop n f x 0, get_or-drop n f (x + 1) 0, ← add_assoc n x 1)

pub joined_length : (m k : ℕ) (f : List ℕ) → blocks_refusal k (suc m) f ≡ 0 → length (joined (suc m) f) ≡ payload_size * m + u16_at f (block_size * m + 2)
unfolding joined
joined_length zero k f ok =
    ap length (append-nil (payload_of (take block_size f))) ∙ first_length k zero f ok ∙ first_count k zero f ok ∙ sym (zero-add (u16_at f 2))
joined_length (suc m) k f ok =
    let r : length (joined (suc m) (drop block_size f)) ≡ payload_size * m + u16_at f (block_size + (block_size * m + 2)) = joined_length m (suc k) (drop block_size f) (rest_good k (suc m) f ok) ∙ rw (u16_drop block_size (block_size * m + 2) f) in
    let e : block_size * suc m + 2 ≡ block_size + (block_size * m + 2) = omega arith in
    length-append (payload_of (take block_size f)) (joined (suc m) (drop block_size f)) ∙ rw (full k m f ok, r, e) (omega arith)

pub joined_at : (m k : ℕ) (f : List ℕ) → blocks_refusal k (suc m) f ≡ 0 → (j : ℕ) → j < length (joined (suc m) f) → get_or (joined (suc m) f) j 0 ≡ get_or f (place_in_file j) 0
unfolding joined
joined_at zero k f ok j h =
    let b : j < payload_count (take block_size f) = omega (arith, h, ap length (append-nil (payload_of (take block_size f))), first_length k zero f ok) in
    let e : 4 + j ≡ place_in_file j = omega (arith, first-most k zero f ok) in
    ap (λ (l : List ℕ). get_or l j 0) (append-nil (payload_of (take block_size f))) ∙ first_at k zero f ok j b ∙ rw e
joined_at (suc m) k f ok j h = go (ltb j payload_size) refl (λ i l. joined_at m (suc k) (drop block_size f) (rest_good k (suc m) f ok) i l)
  where
    go : (x : Bool) → ltb j payload_size ≡ x
        → ((i : ℕ) → i < length (joined (suc m) (drop block_size f)) → get_or (joined (suc m) (drop block_size f)) i 0 ≡ get_or (drop block_size f) (place_in_file i) 0)
        → get_or (payload_of (take block_size f) ++ joined (suc m) (drop block_size f)) j 0 ≡ get_or f (place_in_file j) 0
    go true e next =
        let b = ltb-true j payload_size e in
        let g = full k m f ok in
        let a : 4 + j ≡ place_in_file j = omega arith in
        get_or-append (payload_of (take block_size f)) (joined (suc m) (drop block_size f)) 0 j (omega arith) ∙ first_at k (suc m) f ok j (omega (arith, first_length k (suc m) f ok)) ∙ rw a
    go false e next =
        let b = ltb-false j payload_size e in
        let g = full k m f ok in
        let i : length (payload_of (take block_size f)) + (j - payload_size) ≡ j = omega arith in
        let l : j - payload_size < length (joined (suc m) (drop block_size f)) = omega (arith, h, length-append (payload_of (take block_size f)) (joined (suc m) (drop block_size f))) in
        let a : block_size + place_in_file (j - payload_size) ≡ place_in_file j = omega arith in
        ap (λ (n : ℕ). get_or (payload_of (take block_size f) ++ joined (suc m) (drop block_size f)) n 0) (sym i)
        ∙ get_or-append-add (payload_of (take block_size f)) (joined (suc m) (drop block_size f)) (j - payload_size) 0
        ∙ next (j - payload_size) l
        ∙ get_or-drop block_size f (place_in_file (j - payload_size)) 0 ∙ rw a

-- ---- reading: the file's size, and the view of its stream

size_tests : (a b c : Bool) → (not a && b && c) ≡ true → (a ≡ false) × (b ≡ true) × (c ≡ true)
size_tests true b c e = absurd (false≢true e)
size_tests false false c e = absurd (false≢true e)
size_tests false true c e = (refl, refl, e)

-- a good size is 512 for each of 1 to 123 blocks
pub good_size : (l : ℕ) → size_good l ≡ true → (l ≡ block_size * (l / block_size)) × (1 ≤ l / block_size) × (l / block_size ≤ 123)
good_size l e =
    let t = size_tests (eqb l 0) (eqb (l % block_size) 0) (leb l file_size) e in
    let m = eqb-true (l % block_size) 0 t.1 in
    let h = leb-true l file_size t.2 in
    let z : l ≡ 0 → ⊥ = eqb-false l 0 t.0 in
    (omega arith, omega arith, omega arith)

module _ (f : List ℕ) (size : size_good (length f) ≡ true) (ok : blocks_refusal 0 (length f / block_size) f ≡ 0) where
  blocks : length f / block_size ≡ suc (length f / block_size - 1)
  blocks = omega (arith, (good_size (length f) size).1)

  some : blocks_refusal 0 (suc (length f / block_size - 1)) f ≡ 0
  some = rw blocks at ok

  opened : stream_of f ≡ joined (suc (length f / block_size - 1)) f
  unfolding stream_of
  opened = ap (λ (m : ℕ). joined m f) blocks

  pub stream_length : length (stream_of f) ≡ payload_size * (length f / block_size - 1) + u16_at f (block_size * (length f / block_size - 1) + 2)
  stream_length = ap length opened ∙ joined_length (length f / block_size - 1) 0 f some

  pub stream_viewed : (count : ℕ) → count ≡ length (stream_of f) → Viewed true f count
  stream_viewed count e = record { counted = sym e; placed = λ k h. ap (λ (s : List ℕ). get_or s k 0) opened ∙ joined_at (length f / block_size - 1) 0 f some k (omega (arith, e, ap length opened)) }

-- the costs of the stream by the file's bytes: a run of m whole ones in one block, and one that stands in two
module _ (f : List ℕ) (count : ℕ) (v : Viewed true f count) where
  pub run_in_block : (good : ℕ → Bool) (at m : ℕ) → at + 2 * m ≤ count → at % payload_size + 2 * m ≤ payload_size
      → costs_good good f (place_in_file at) m ≡ costs_good good (stream_of f) at m
  run_in_block good at m h l =
      costs_same good f (stream_of f) (place_in_file at) at m (λ i b. let e : place_in_file at + i ≡ place_in_file (at + i) = omega arith in rw e (sym (v.placed (at + i) (omega arith))))

  pub cost_in_two : (good : ℕ → Bool) (at a b : ℕ) → at + 2 ≤ count → a ≡ get_or f (place_in_file at) 0 → b ≡ get_or f (place_in_file (at + 1)) 0
      → costs_good good (a ∷ b ∷ []) 0 1 ≡ costs_good good (stream_of f) at 1
  unfolding costs_good
  cost_in_two good at a b h e g = rw (e, g, v.placed at (omega arith), v.placed (at + 1) (omega arith))

-- ---- the answers of read_refusal, in their order

pub refused_room : (f : List ℕ) (room : ℕ) → room < stream_size → 13 ≡ read_refusal f room
unfolding read_refusal
refused_room f room h = rw (lt-ltb room stream_size h)

module _ (f : List ℕ) (room : ℕ) (h : stream_size ≤ room) where
  pub refused-bytes : size_good (length f) ≡ false → 1 ≡ read_refusal f room
  unfolding read_refusal
  refused-bytes e = rw (le-ltb room stream_size h, e)

  module _ (size : size_good (length f) ≡ true) where
    by_blocks : or_else (blocks_refusal 0 (length f / block_size) f) (stream_refusal (stream_of f)) ≡ read_refusal f room
    unfolding read_refusal
    by_blocks = rw (le-ltb room stream_size h, size)

    pub refused_blocks : (r : ℕ) → r ≡ blocks_refusal 0 (length f / block_size) f → (r ≡ 0 → ⊥) → r ≡ read_refusal f room
    refused_blocks r e n = sym (or_first r (stream_refusal (stream_of f)) n) ∙ rw e by_blocks

    pub by_stream : blocks_refusal 0 (length f / block_size) f ≡ 0 → stream_refusal (stream_of f) ≡ read_refusal f room
    by_stream e = rw e at by_blocks

-- ---- an accepted file

read_passed : (a b : Bool) (x y : ℕ) → ◌≡◌ {A = ℕ} (cond a 13 (cond b (or_else x y) 1)) 0 → (a ≡ false) × (b ≡ true) × (x ≡ 0) × (y ≡ 0)
read_passed true b x y e = absurd (omega arith)
read_passed false false x y e = absurd (omega arith)
read_passed false true x y e = (refl, refl, or_left x y e, or_right x y e)

module _ (f : List ℕ) (room : ℕ) (ok : read_refusal f room ≡ 0) where
  read_tests : (ltb room stream_size ≡ false) × (size_good (length f) ≡ true) × (blocks_refusal 0 (length f / block_size) f ≡ 0) × (stream_refusal (stream_of f) ≡ 0)
  unfolding read_refusal
  read_tests = read_passed (ltb room stream_size) (size_good (length f)) (blocks_refusal 0 (length f / block_size) f) (stream_refusal (stream_of f)) ok

  pub read_room : stream_size ≤ room
  read_room = ltb-false room stream_size read_tests.0

  pub read_size : size_good (length f) ≡ true
  read_size = read_tests.1

  pub read_blocks : blocks_refusal 0 (length f / block_size) f ≡ 0
  read_blocks = read_tests.2

  -- the stream of an accepted file is accepted
  pub read_stream : Accepted (stream_of f)
  unfolding Accepted
  read_stream = read_tests.3

  pub read_most : length (stream_of f) ≤ stream_size
  read_most = accepted-most (stream_of f) read_stream

-- ---- what a call gives that is to fill a lent buffer, by the refusal r that it found

module _ (refusal r : ℕ) (e : r ≡ refusal) (count : ℕ) (bytes out : List ℕ) where
  pub gives-refused : (r ≡ 0 → ⊥) → ◌≡◌ {A = Length} (record { refusal = r; length = 0 }) (answer refusal count) × (out ≡ leaves refusal bytes out)
  gives-refused n = rw (← e, ne_eqb r 0 n) (refl, refl)

  pub gives-accepted : r ≡ 0 → ◌≡◌ {A = Length} (record { refusal = 0; length = count }) (answer refusal count) × (bytes ++ drop (length bytes) out ≡ leaves refusal bytes out)
  gives-accepted z = rw (← e, z) (refl, refl)

-- ---- reading: payloads one behind the other

joined_split : (a b : ℕ) (f : List ℕ) → joined (a + b) f ≡ joined a f ++ joined b (drop (block_size * a) f)
unfolding joined
joined_split zero b f = rw (zero-add b)
joined_split (suc a) b f =
    let e : suc a + b ≡ suc (a + b) = omega arith in
    let d : block_size + block_size * a ≡ block_size * suc a = omega arith in
    rw (e, joined_split a b (drop block_size f), drop-drop (block_size * a) block_size f, d) (sym (append_assoc (payload_of (take block_size f)) (joined a (drop block_size f)) (joined b (drop (block_size * suc a) f))))

-- block k of m accepted ones is accepted
block_good : (k m j : ℕ) (f : List ℕ) → blocks_refusal j m f ≡ 0 → k < m → block_refusal (j + k) (eqb (m - (k + 1)) 0) (take block_size (drop (block_size * k) f)) ≡ 0
block_good k zero j f ok h = absurd (omega arith)
block_good zero (suc m) j f ok h = let e : suc m - 1 ≡ m = omega arith in rw (add-zero j, e) (first_good j m f ok)
block_good (suc k) (suc m) j f ok h =
    let e : suc j + k ≡ j + suc k = omega arith in
    let l : m - (k + 1) ≡ suc m - (suc k + 1) = omega arith in
    let d : block_size + block_size * k ≡ block_size * suc k = omega arith in
    rw (drop-drop (block_size * k) block_size f, d, e, l) at (block_good k m (suc j) (drop block_size f) (rest_good j m f ok) (omega arith))

-- and those before it are full
before_full : (k m j : ℕ) (f : List ℕ) → blocks_refusal j m f ≡ 0 → k < m → length (joined k f) ≡ payload_size * k
unfolding joined
before_full zero m j f ok h = refl
before_full (suc k) zero j f ok h = absurd (omega arith)
before_full (suc k) (suc zero) j f ok h = absurd (omega arith)
before_full (suc k) (suc (suc m)) j f ok h =
    length-append (payload_of (take block_size f)) (joined k (drop block_size f))
    ∙ rw (full j m f ok, before_full k (suc m) (suc j) (drop block_size f) (rest_good j (suc m) f ok) (omega arith)) (omega arith)

-- a turn of a loop that puts the payload p of block k of m behind the others, to the front of a buffer o
module _ (f : List ℕ) (m k : ℕ) (ok : blocks_refusal 0 m f ≡ 0) (h : k < m) where
  abbrev payload : List ℕ
  payload = payload_of (take block_size (drop (block_size * k) f))

  pub payload-within : (n : ℕ) → n ≡ block_size → 4 + payload_count (take n (drop (block_size * k) f)) ≤ length (take n (drop (block_size * k) f))
  payload-within n l =
      let b : List ℕ = take block_size (drop (block_size * k) f) in
      let g : block_refusal k (eqb (m - (k + 1)) 0) b ≡ 0 = rw (zero-add k) at (block_good k m 0 f ok h) in
      rw l (omega (arith, block_size_lem k (eqb (m - (k + 1)) 0) b g, block_most_lem k (eqb (m - (k + 1)) 0) b g))

  pub payload-taken : (n : ℕ) (p : List ℕ) → n ≡ block_size → p ≡ payload_of (take n (drop (block_size * k) f)) → p ≡ payload
  payload-taken n p l e = e ∙ rw l

  joined_more : joined (k + 1) f ≡ joined k f ++ payload
  unfolding joined
  joined_more = joined_split k 1 f ∙ rw append-nil

  front : length (joined k f) ≡ payload_size * k
  front = before_full k m 0 f ok h

  pub payload-fits : (p : List ℕ) → p ≡ payload → payload_size * k + length p ≤ length (joined m f)
  payload-fits p e =
      let n : m ≡ k + 1 + (m - (k + 1)) = omega arith in
      let l : length (joined m f) ≡ length (joined (k + 1) f) + length (joined (m - (k + 1)) (drop (block_size * (k + 1)) f)) =
      ap (λ (x : ℕ). length (joined x f)) n ∙ ap length (joined_split (k + 1) (m - (k + 1)) f) ∙ length-append (joined (k + 1) f) (joined (m - (k + 1)) (drop (block_size * (k + 1)) f)) in
      rw e (omega (arith, front, ap length joined_more ∙ length-append (joined k f) payload))

  pub payload-put : (o p now : List ℕ) → p ≡ payload → now ≡ joined k f ++ drop (length (joined k f)) o
      → put_at now (payload_size * k) p ≡ joined (k + 1) f ++ drop (length (joined (k + 1) f)) o
  payload-put o p now e g = rw (g, e, joined_more) (put_behind (joined k f) payload o (payload_size * k) (sym front))

-- ---- writing: blocks one behind the other

pub take_most : (s : List ℕ) → length (take payload_size s) ≤ payload_size
take_most s = simp length-take (omega arith)

pub block_long : (k : ℕ) (s : List ℕ) → length (block_of k (take payload_size s)) ≡ block_size
block_long k s = written_size k (take payload_size s) (take_most s)

pub file_length : (m k : ℕ) (s : List ℕ) → length (file_from k m s) ≡ block_size * m
unfolding file_from
file_length zero k s = refl
file_length (suc m) k s =
    length-append (block_of k (take payload_size s)) (file_from (suc k) m (drop payload_size s))
    ∙ rw (block_long k s, file_length m (suc k) (drop payload_size s)) (omega arith)

pub written_length_lem : (s : List ℕ) → length (file_of s) ≡ block_size * blocks_for (length s)
unfolding file_of
written_length_lem s = file_length (blocks_for (length s)) 0 s

pub file_in_front : (s o : List ℕ) → file_from 0 (blocks_for (length s)) s ++ drop (block_size * blocks_for (length s)) o ≡ file_of s ++ drop (length (file_of s)) o
unfolding file_of
file_in_front s o = rw (file_length (blocks_for (length s)) 0 s)

-- one block more
file_snoc : (m k : ℕ) (s : List ℕ) → file_from k (suc m) s ≡ file_from k m s ++ block_of (k + m) (take payload_size (drop (payload_size * m) s))
unfolding file_from
file_snoc zero k s = rw (append-nil, add-zero)
file_snoc (suc m) k s =
    let e : payload_size + payload_size * m ≡ payload_size * suc m = omega arith in
    let i : suc k + m ≡ k + suc m = omega arith in
    ap (λ (l : List ℕ). block_of k (take payload_size s) ++ l) (file_snoc m (suc k) (drop payload_size s))
    ∙ rw (drop-drop (payload_size * m) payload_size s, e, i) (sym (append_assoc (block_of k (take payload_size s)) (file_from (suc k) m (drop payload_size s)) (block_of (k + suc m) (take payload_size (drop (payload_size * suc m) s)))))

-- block k written behind the first k, in a buffer o
pub file_more : (k : ℕ) (s o : List ℕ)
    → put_at (file_from 0 k s ++ drop (block_size * k) o) (block_size * k) (block_of k (take payload_size (drop (payload_size * k) s))) ≡ file_from 0 (k + 1) s ++ drop (block_size * (k + 1)) o
file_more k s o =
    let b : List ℕ = block_of k (take payload_size (drop (payload_size * k) s)) in
    let l : length b ≡ block_size = block_long k (drop (payload_size * k) s) in
    let i : block_size * k + block_size ≡ block_size * (k + 1) = omega arith in
    put_next (file_from 0 k s) (drop (block_size * k) o) b (block_size * k) (file_length k 0 s)
    ∙ rw (l, drop-drop block_size (block_size * k) o, i, add-one k, file_snoc k 0 s, zero-add k)

-- the bytes that block k carries, taken by their end
pub carried : (s : List ℕ) (k n : ℕ) → n ≡ min (payload_size * k + payload_size) (length s) - payload_size * k → take n (drop (payload_size * k) s) ≡ take payload_size (drop (payload_size * k) s)
carried s k n e = go (leb (payload_size * k + payload_size) (length s)) refl
  where
    go : (x : Bool) → leb (payload_size * k + payload_size) (length s) ≡ x → take n (drop (payload_size * k) s) ≡ take payload_size (drop (payload_size * k) s)
    go true t = let h = leb-true (payload_size * k + payload_size) (length s) t in let f : n ≡ payload_size = omega arith in rw f
    go false t =
        let h = leb-false (payload_size * k + payload_size) (length s) t in
        let a : length (drop (payload_size * k) s) ≤ n = simp length-drop (omega arith) in
        let b : length (drop (payload_size * k) s) ≤ payload_size = simp length-drop (omega arith) in
        take_all n (drop (payload_size * k) s) a ∙ sym (take_all payload_size (drop (payload_size * k) s) b)

-- ---- the answers of store_refusal, in their order

module _ (s : List ℕ) (room : ℕ) where
  pub refused-stream : (r : ℕ) → r ≡ stream_refusal s → (r ≡ 0 → ⊥) → r ≡ store_refusal s room
  unfolding store_refusal
  refused-stream r e n = rw (← e) (sym (or_first r (cond (ltb room (block_size * blocks_for (length s))) 13 0) n))

  pub refused_short : stream_refusal s ≡ 0 → room < block_size * blocks_for (length s) → 13 ≡ store_refusal s room
  unfolding store_refusal
  refused_short e h = rw (e, lt-ltb room (block_size * blocks_for (length s)) h)

  pub write-accepted : stream_refusal s ≡ 0 → block_size * blocks_for (length s) ≤ room → 0 ≡ store_refusal s room
  unfolding store_refusal
  write-accepted e h = rw (e, le-ltb room (block_size * blocks_for (length s)) h)

write-passed : (a : Bool) (x : ℕ) → ◌≡◌ {A = ℕ} (or_else x (cond a 13 0)) 0 → (x ≡ 0) × (a ≡ false)
write-passed true x e = absurd (omega (arith, or_right x 13 e))
write-passed false x e = (or_left x 0 e, refl)

module _ (s : List ℕ) (room : ℕ) (ok : store_refusal s room ≡ 0) where
  write_tests : (stream_refusal s ≡ 0) × (ltb room (block_size * blocks_for (length s)) ≡ false)
  unfolding store_refusal
  write_tests = write-passed (ltb room (block_size * blocks_for (length s))) (stream_refusal s) ok

  pub write-stream : Accepted s
  unfolding Accepted
  write-stream = write_tests.0

  pub write_room : block_size * blocks_for (length s) ≤ room
  write_room = ltb-false room (block_size * blocks_for (length s)) write_tests.1

  pub write-most : length s ≤ stream_size
  write-most = accepted-most s write-stream
