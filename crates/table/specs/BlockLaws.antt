-- Blocks: what holds of an accepted one, and that writing and reading one undo each other, at the seams of its fields.
-- In order: unused bytes; the answers of block_refusal; an accepted block; what read_block_of gives; a written block; a block filled
-- part by part; a block written again.
-- Assumes nothing.
use Rattle.std.specs.Prelude.{ℕ, zero, suc, ◌+◌, ◌-◌, ◌/◌, ◌%◌, ◌≤◌, ◌<◌, Bool, true, false, cond, ◌&&◌, List, [], ◌∷◌, ◌++◌, ◌≡◌, refl, eqb, leb, get_or, drop, replicate}
use Rattle.std.proofs.Common.{add-one, arith, append_assoc, append-nil, ◌∙◌, length-drop, drop_of_length-le, take-append-drop, drop-cons, length-take-le, take-add, take_all, take-take, drop_at, drop-drop, get_or-append-add}
use Rattle.std.proofs.Math.Path.{sym, ap}
use Rattle.std.proofs.Math.ListN.{length, take, length-take, length-append}
use Rattle.std.proofs.lemmas.List.{length-replicate}
use Rattle.std.proofs.Math.Seq.{get_or-take, take_at}
use borrow.Author.Tests.{eqb-true, leb-true, eq-eqb, ne_eqb}
use Rattle.base.specs.Limits.{block_size, payload_size, checked_size}
use Rattle.base.specs.Bytes.{u16_at, le16}
use Rattle.base.specs.Bytes.Laws.{AllBytes, u16_of_le16, le16_again}
use Rattle.base.specs.Shape.Laws.{and_left, and_right}
use Rattle.checksum.specs.Sum.{sum_of}
use Rattle.checksum.specs.Sum.Laws.{sum_small}
use Rattle.base.specs.Put.{put_at}
use Rattle.base.specs.Put.Laws.{put_next}
use Rattle.table.specs.Block.{payload_count, payload_of, unused_of, count_good, all_zero, block_refusal, read_block_of}
use Rattle.table.specs.Written.{body_of, block_of}

-- the number and the check that a block says
abbrev pub block_number : List ℕ → ℕ
block_number b = u16_at b 0

abbrev pub check_of : List ℕ → ℕ
check_of b = u16_at b checked_size

-- ---- unused bytes: a turn of a loop from place i to place m, and its end

module _ {w : Bool} (b : List ℕ) (i m : ℕ) (most : m ≤ length b) (inv : w ≡ all_zero (drop i (take m b))) where
  zero_step : i < m → w ≡ (eqb (get_or b i 0) 0 && all_zero (drop (i + 1) (take m b)))
  unfolding all_zero
  zero_step h =
      let l : i < length (take m b) = simp length-take (omega arith) in
      inv ∙ rw (drop-cons (take m b) i 0 l, get_or-take m b i 0 h, add-one)

  pub zero_bad : i < m → (get_or b i 0 ≡ 0 → ⊥) → false ≡ w
  zero_bad h e = sym (zero_step h ∙ rw (ne_eqb (get_or b i 0) 0 e))

  pub zero_next : i < m → get_or b i 0 ≡ 0 → w ≡ all_zero (drop (i + 1) (take m b))
  zero_next h e = zero_step h ∙ rw (eq-eqb (get_or b i 0) 0 e)

  pub zero_end : m ≤ i → true ≡ w
  unfolding all_zero
  zero_end h =
      let l : length (take m b) ≤ i = simp length-take (omega arith) in
      sym (inv ∙ rw (drop_of_length-le (take m b) l))

-- ---- the answers of block_refusal, in their order

pub count_most : (last : Bool) (c : ℕ) → count_good last c ≡ true → c ≤ payload_size
count_most true c e = leb-true c payload_size (and_right (leb 1 c) (leb c payload_size) e)
count_most false c e = omega (arith, eqb-true c payload_size e)

module _ (k : ℕ) (last : Bool) (b : List ℕ) where
  pub refused_size : (length b ≡ block_size → ⊥) → 1 ≡ block_refusal k last b
  unfolding block_refusal
  refused_size h = rw (ne_eqb (length b) block_size h)

  module _ (l : length b ≡ block_size) where
    pub refused_check : (check_of b ≡ sum_of (take checked_size b) → ⊥) → 4 ≡ block_refusal k last b
    unfolding block_refusal
    refused_check h = simp (eq-eqb (length b) block_size l, ne_eqb (check_of b) (sum_of (take checked_size b)) h)

    module _ (s : check_of b ≡ sum_of (take checked_size b)) where
      pub refused_number : (block_number b ≡ k → ⊥) → 2 ≡ block_refusal k last b
      unfolding block_refusal
      refused_number h = simp (eq-eqb (length b) block_size l, eq-eqb (check_of b) (sum_of (take checked_size b)) s, ne_eqb (block_number b) k h)

      module _ (n : block_number b ≡ k) (c : ℕ) (e : c ≡ payload_count b) where
        by_payload : (x : Bool) → (count_good last (payload_count b) && all_zero (unused_of b)) ≡ x → cond x 0 3 ≡ block_refusal k last b
        unfolding block_refusal
        by_payload x h = simp (eq-eqb (length b) block_size l, eq-eqb (check_of b) (sum_of (take checked_size b)) s, eq-eqb (block_number b) k n, h)

        pub refused_payload : (count_good last c && all_zero (drop (4 + c) (take checked_size b))) ≡ false → 3 ≡ block_refusal k last b
        refused_payload h = by_payload false (rw e at h)

        pub accepted_of : (count_good last c && all_zero (drop (4 + c) (take checked_size b))) ≡ true → 0 ≡ block_refusal k last b
        accepted_of h = by_payload true (rw e at h)

-- ---- an accepted block

passed : (a b c d : Bool) → ◌≡◌ {A = ℕ} (cond a (cond b (cond c (cond d 0 3) 2) 4) 1) 0 → (a ≡ true) × (b ≡ true) × (c ≡ true) × (d ≡ true)
passed false b c d h = absurd (omega arith)
passed true false c d h = absurd (omega arith)
passed true true false d h = absurd (omega arith)
passed true true true false h = absurd (omega arith)
passed true true true true h = (refl, refl, refl, refl)

module _ (k : ℕ) (last : Bool) (b : List ℕ) (ok : block_refusal k last b ≡ 0) where
  tests : (eqb (length b) block_size ≡ true) × (eqb (check_of b) (sum_of (take checked_size b)) ≡ true) × (eqb (block_number b) k ≡ true) × ((count_good last (payload_count b) && all_zero (unused_of b)) ≡ true)
  unfolding block_refusal
  tests = passed (eqb (length b) block_size) (eqb (check_of b) (sum_of (take checked_size b))) (eqb (block_number b) k) (count_good last (payload_count b) && all_zero (unused_of b)) ok

  pub block_size_lem : length b ≡ block_size
  block_size_lem = eqb-true (length b) block_size tests.0

  pub block_check : check_of b ≡ sum_of (take checked_size b)
  block_check = eqb-true (check_of b) (sum_of (take checked_size b)) tests.1

  pub block_number_lem : block_number b ≡ k
  block_number_lem = eqb-true (block_number b) k tests.2

  pub block_count : count_good last (payload_count b) ≡ true
  block_count = and_left (count_good last (payload_count b)) (all_zero (unused_of b)) tests.3

  pub block_unused : all_zero (unused_of b) ≡ true
  block_unused = and_right (count_good last (payload_count b)) (all_zero (unused_of b)) tests.3

  pub block_most_lem : payload_count b ≤ payload_size
  block_most_lem = count_most last (payload_count b) block_count

  pub block_payload_length : length (payload_of b) ≡ payload_count b
  block_payload_length = length-take-le (payload_count b) (drop 4 b) (simp length-drop (omega (arith, block_most_lem, block_size_lem)))

-- ---- what read_block_of gives

pub read_refused : (k : ℕ) (last : Bool) (b : List ℕ) → (block_refusal k last b ≡ 0 → ⊥) → [] ≡ read_block_of k last b
unfolding read_block_of
read_refused k last b h = rw (ne_eqb (block_refusal k last b) 0 h)

pub read_accepted : (k : ℕ) (last : Bool) (b : List ℕ) → block_refusal k last b ≡ 0 → payload_of b ≡ read_block_of k last b
unfolding read_block_of
read_accepted k last b h = rw (eq-eqb (block_refusal k last b) 0 h)

-- ---- a written block

pub zeros : (n : ℕ) → all_zero (replicate n 0) ≡ true
unfolding all_zero
zeros zero = refl
zeros (suc n) = zeros n

-- the two bytes behind a body
check_back : (a : List ℕ) (x : ℕ) → length a ≡ checked_size → x < 65536 → u16_at (a ++ le16 x) checked_size ≡ x
check_back a x e h =
    let i : checked_size ≡ length a + 0 = omega arith in
    let j : 511 ≡ length a + 1 = omega arith in
    let u : get_or (a ++ le16 x) checked_size 0 ≡ x % 256 = ap (λ (n : ℕ). get_or (a ++ le16 x) n 0) i ∙ get_or-append-add a (le16 x) 0 0 in
    let v : get_or (a ++ le16 x) 511 0 ≡ x / 256 % 256 = ap (λ (n : ℕ). get_or (a ++ le16 x) n 0) j ∙ get_or-append-add a (le16 x) 1 0 in
    rw (u, v) (u16_of_le16 x h)

module _ (k : ℕ) (p : List ℕ) (h : length p ≤ payload_size) where
  pub body_length : length (body_of k p) ≡ checked_size
  body_length = simp (length-append, length-replicate) (omega arith)

  pub written_size : length (block_of k p) ≡ block_size
  unfolding block_of
  written_size = length-append (body_of k p) (le16 (sum_of (body_of k p))) ∙ rw body_length

  written-body : take checked_size (block_of k p) ≡ body_of k p
  unfolding block_of
  written-body = take_at (body_of k p) (le16 (sum_of (body_of k p))) checked_size body_length

  written_count : payload_count (block_of k p) ≡ length p
  unfolding block_of
  written_count = u16_of_le16 (length p) (omega arith)

  pub written-payload : payload_of (block_of k p) ≡ p
  unfolding block_of
  written-payload =
      ap (λ (n : ℕ). take n (drop 4 (block_of k p))) written_count
      ∙ rw (append_assoc p (replicate (payload_size - length p) 0) (le16 (sum_of (body_of k p)))) (take_at p (replicate (payload_size - length p) 0 ++ le16 (sum_of (body_of k p))) (length p) refl)

  written_unused : unused_of (block_of k p) ≡ replicate (payload_size - length p) 0
  written_unused =
      ap (λ (n : ℕ). drop (4 + n) (take checked_size (block_of k p))) written_count ∙ ap (λ (l : List ℕ). drop (4 + length p) l) written-body
      ∙ sym (drop-drop (length p) 4 (body_of k p)) ∙ drop_at p (replicate (payload_size - length p) 0) (length p) refl

  written_check : check_of (block_of k p) ≡ sum_of (body_of k p)
  unfolding block_of
  written_check = check_back (body_of k p) (sum_of (body_of k p)) body_length (omega (arith, sum_small (body_of k p)))

  written_number : k < 65536 → block_number (block_of k p) ≡ k
  unfolding block_of
  written_number l = u16_of_le16 k l

  -- is accepted where the count fits its place
  pub written_good : k < 65536 → (last : Bool) → count_good last (length p) ≡ true → block_refusal k last (block_of k p) ≡ 0
  written_good l last c =
      sym (accepted_of k last (block_of k p) written_size (written_check ∙ ap sum_of (sym written-body)) (written_number l) (length p) (sym written_count)
      (rw c (ap (λ (n : ℕ). all_zero (drop (4 + n) (take checked_size (block_of k p)))) (sym written_count) ∙ ap all_zero written_unused ∙ zeros (payload_size - length p))))

pub sum_fits : (x : ℕ) (s : List ℕ) → x ≡ sum_of s → x < 65536
sum_fits x s e = omega (arith, sum_small s)

two-left : (n c : ℕ) → n ≡ block_size → c ≤ payload_size → n - 2 - 2 - c - (payload_size - c) ≤ 2
two-left n c e h = omega arith

-- a block filled part by part in a buffer o of 512 bytes
pub filled : (k : ℕ) (p o : List ℕ) → length o ≡ block_size → length p ≤ payload_size → {b1 b2 b3 b4 b5 : List ℕ} {x : ℕ}
    → b1 ≡ put_at o 0 (le16 k) → b2 ≡ put_at b1 2 (le16 (length p)) → b3 ≡ put_at b2 4 p
    → b4 ≡ put_at b3 (4 + length p) (replicate (checked_size - (4 + length p)) 0) → x ≡ sum_of (take checked_size b4) → b5 ≡ put_at b4 checked_size (le16 x) → b5 ≡ block_of k p
unfolding block_of
filled k p o l h {b1} {b2} {b3} {b4} {b5} {x} e1 e2 e3 e4 e5 e6 =
    let z : List ℕ = replicate (payload_size - length p) 0 in
    let q2 : List ℕ = drop 2 (drop 2 o) in
    let q3 : List ℕ = drop (length p) q2 in
    let q4 : List ℕ = drop (length z) q3 in
    let f1 : b1 ≡ le16 k ++ drop 2 o = e1 ∙ put_next [] o (le16 k) 0 refl in
    let f2 : b2 ≡ le16 k ++ le16 (length p) ++ q2 = e2 ∙ rw f1 (put_next (le16 k) (drop 2 o) (le16 (length p)) 2 refl) in
    let f3 : b3 ≡ le16 k ++ le16 (length p) ++ p ++ q3 = e3 ∙ rw f2 (put_next (le16 k ++ le16 (length p)) q2 p 4 refl) in
    let n : checked_size - (4 + length p) ≡ payload_size - length p = omega arith in
    let m : length (le16 k ++ le16 (length p) ++ p) ≡ 4 + length p = simp length-append (omega arith) in
    let f4 : b4 ≡ body_of k p ++ q4 = e4 ∙ rw (f3, n) (put_next (le16 k ++ le16 (length p) ++ p) q3 z (4 + length p) m) in
    let s : x ≡ sum_of (body_of k p) = e5 ∙ ap sum_of (rw f4 (take_at (body_of k p) q4 checked_size (body_length k p h))) in
    let r : length q4 ≤ 2 = simp (length-drop, length-replicate) (two-left (length o) (length p) l h) in
    let f5 : b5 ≡ body_of k p ++ le16 (sum_of (body_of k p)) ++ drop 2 q4 = e6 ∙ rw (f4, s) (put_next (body_of k p) q4 (le16 (sum_of (body_of k p))) checked_size (body_length k p h)) in
    f5 ∙ ap (λ (q : List ℕ). body_of k p ++ le16 (sum_of (body_of k p)) ++ q) (drop_of_length-le q4 r) ∙ append-nil (body_of k p ++ le16 (sum_of (body_of k p)))

-- ---- a block written again is the same block

all_zero_lem : (l : List ℕ) → all_zero l ≡ true → l ≡ replicate (length l) 0
unfolding all_zero
all_zero_lem [] e = refl
all_zero_lem (x ∷ l) e = cc (eqb-true x 0 (and_left (eqb x 0) (all_zero l) e), all_zero_lem l (and_right (eqb x 0) (all_zero l) e))

pub zeros_are : (l : List ℕ) (n : ℕ) → all_zero l ≡ true → length l ≡ n → replicate n 0 ≡ l
zeros_are l n e h = rw (← h) (sym (all_zero_lem l e))

-- the parts of a body, each by its own equation
parts : {a b z a' b' z' : List ℕ} (p : List ℕ) → a ≡ a' → b ≡ b' → z ≡ z' → a ++ b ++ p ++ z ≡ a' ++ b' ++ p ++ z'
parts p e f g = cc

pub written_again : (k : ℕ) (last : Bool) (b : List ℕ) → block_refusal k last b ≡ 0 → AllBytes b → block_of k (payload_of b) ≡ b
unfolding block_of
written_again k last b ok bytes =
    let c : ℕ = payload_count b in
    let long : length b ≡ block_size = block_size_lem k last b ok in
    let most : c ≤ payload_size = block_most_lem k last b ok in
    let n : length (payload_of b) ≡ c = block_payload_length k last b ok in
    let number : le16 k ≡ take 2 b = ap le16 (sym (block_number_lem k last b ok)) ∙ le16_again b 0 (omega arith) bytes in
    let count : le16 (length (payload_of b)) ≡ take 2 (drop 2 b) = ap le16 n ∙ le16_again b 2 (omega arith) bytes in
    let l : length (unused_of b) ≡ payload_size - length (payload_of b) = simp (length-drop, length-take) (omega arith) in
    let unused : replicate (payload_size - length (payload_of b)) 0 ≡ unused_of b = zeros_are (unused_of b) (payload_size - length (payload_of b)) (block_unused k last b ok) l in
    let front : take 2 b ++ take 2 (drop 2 b) ++ payload_of b ≡ take (4 + c) (take checked_size b) =
    rw (← take-add 2 2 b, ← take-add 4 c b) (sym (take-take (4 + c) checked_size b (omega arith))) in
    let body : body_of k (payload_of b) ≡ take checked_size b = parts (payload_of b) number count unused ∙ ap (λ (q : List ℕ). q ++ unused_of b) front ∙ take-append-drop (4 + c) (take checked_size b) in
    let check : le16 (sum_of (take checked_size b)) ≡ drop checked_size b = ap le16 (sym (block_check k last b ok)) ∙ le16_again b checked_size (omega arith) bytes ∙ take_all 2 (drop checked_size b) (simp length-drop (omega arith)) in
    ap (λ (q : List ℕ). q ++ le16 (sum_of q)) body ∙ ap (λ (q : List ℕ). take checked_size b ++ q) check ∙ take-append-drop checked_size b
