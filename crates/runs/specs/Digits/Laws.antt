-- The digits of a number read back as that number, and how one more digit is put in front of those written so far.
-- By induction on the number of digits. Assumes nothing.
use Prim.Native.Nat.{ℕ, zero, suc, ◌+◌, ◌*◌, ◌-◌, ◌/◌, ◌%◌, ◌^◌, ◌≤◌, ◌<◌}
use Rattle.std.specs.Prelude.{◌≡◌, refl, Bool, true, false, cond, List, [], ◌∷◌, ◌++◌, eqb, length, take, drop, set, replicate}
use Rattle.std.proofs.Common.{sym, ◌∙◌, append_assoc, lt_of_lt_of_le, length-drop, length-set, take-append-drop, drop-cons, get_or-set_same, drop-set-lt, take-take, eqb-true, leb-true}
use Rattle.std.proofs.Math.Path.{ap}
use native.Mathlib.Omega.{arith}
use Rattle.std.proofs.lemmas.List.{take-set-le}
use Rattle.runs.specs.Count.{value_of}
use Rattle.runs.specs.Digits.{decimal, digits_of}

-- ---- read back

-- the number that a text of digits stands for, a in front of it
unfoldable pub read_from : ℕ → List ℕ → ℕ
read_from a [] = a
read_from a (d ∷ ds) = read_from (10 * a + (d - 48)) ds

read_last : (a : ℕ) (ds : List ℕ) (d : ℕ) → read_from a (ds ++ (d ∷ [])) ≡ 10 * read_from a ds + (d - 48)
unfolding read_from
read_last a [] d = refl
read_last a (x ∷ ds) d = read_last (10 * a + (x - 48)) ds d

pub read_decimal : (m x : ℕ) → x < 10 ^ m → read_from 0 (decimal m x) ≡ x
unfolding decimal read_from
read_decimal zero x h = omega arith
read_decimal (suc m) x h = go (eqb (x / 10) 0) refl (read_decimal m (x / 10) (omega arith))
  where
    go : (t : Bool) → eqb (x / 10) 0 ≡ t → read_from 0 (decimal m (x / 10)) ≡ x / 10 → read_from 0 (cond t [] (decimal m (x / 10)) ++ ((48 + x % 10) ∷ [])) ≡ x
    go true e front = let z : x / 10 ≡ 0 = eqb-true (x / 10) 0 e in omega arith
    go false e front = read_last 0 (decimal m (x / 10)) (48 + x % 10) ∙ rw front (omega arith)

-- the digits of every count
pub read_digits : (x : ℕ) → x < 2 ^ 64 * 2 ^ 64 → read_from 0 (decimal 40 x) ≡ x
read_digits x h = read_decimal 40 x (lt_of_lt_of_le h (leb-true (2 ^ 64 * 2 ^ 64) (10 ^ 40) refl))

-- 01: the counts are printed "whole"
pub past_one_word : decimal 40 (value_of (record { low = 0; high = 1 }))
    ≡ 49 ∷ 56 ∷ 52 ∷ 52 ∷ 54 ∷ 55 ∷ 52 ∷ 52 ∷ 48 ∷ 55 ∷ 51 ∷ 55 ∷ 48 ∷ 57 ∷ 53 ∷ 53 ∷ 49 ∷ 54 ∷ 49 ∷ 54 ∷ []
unfolding decimal
past_one_word = refl

-- ---- one digit more

-- a digit's text is a byte
pub digit_byte : (d : ℕ) → d < 10 → 48 + d < 2 ^ 8
digit_byte d h = omega arith

pub no_digits_left : (x : ℕ) (l : List ℕ) → decimal 0 x ++ l ≡ l
unfolding decimal
no_digits_left x l = refl

take_replicate : (m n : ℕ) → m ≤ n → take {A = ℕ} m (replicate n 0) ≡ replicate m 0
take_replicate zero n h = refl
take_replicate (suc m) zero h = absurd (omega arith)
take_replicate (suc m) (suc n) h = ap (λ (l : List ℕ). 0 ∷ l) (take_replicate m n (omega arith))

module _ (text : List ℕ) (s v q d : ℕ) (room : length text ≡ 40) (some : 0 < s) (most : s ≤ 40) (split : v ≡ 10 * q + d) (small : d < 10) where
  open_decimal : decimal s v ≡ cond (eqb q 0) [] (decimal (s - 1) q) ++ ((48 + d) ∷ [])
  unfolding decimal
  open_decimal =
      let e : s ≡ suc (s - 1) = omega arith in
      let f : v / 10 ≡ q = omega arith in
      let g : v % 10 ≡ d = omega arith in
      ap (λ (m : ℕ). decimal m v) e ∙ rw (f, g)

  put_in_front : drop (s - 1) (set text (s - 1) (48 + d)) ≡ (48 + d) ∷ drop s text
  put_in_front =
      let e : s ≡ suc (s - 1) = omega arith in
      let l : s - 1 < length (set text (s - 1) (48 + d)) = simp length-set (omega arith) in
      drop-cons (set text (s - 1) (48 + d)) (s - 1) 0 l
      ∙ rw (get_or-set_same text (s - 1) (48 + d) 0 (omega arith), drop-set-lt (suc (s - 1)) text (s - 1) (48 + d) (omega arith), ← e)

  -- the text so far, with the digits that are left, stays the same
  digit-put : {w : List ℕ} → w ≡ decimal s v ++ drop s text → w ≡ cond (eqb q 0) [] (decimal (s - 1) q) ++ drop (s - 1) (set text (s - 1) (48 + d))
  digit-put inv = inv ∙ rw (open_decimal, put_in_front, append_assoc)

  pub digit_more : {w : List ℕ} → w ≡ decimal s v ++ drop s text → eqb q 0 ≡ false → w ≡ decimal (s - 1) q ++ drop (s - 1) (set text (s - 1) (48 + d))
  digit_more inv z = digit-put inv ∙ rw z

  pub digit-last : {w : List ℕ} → w ≡ decimal s v ++ drop s text → eqb q 0 ≡ true → w ≡ drop (s - 1) (set text (s - 1) (48 + d))
  digit-last inv z = digit-put inv ∙ rw z

  pub zeros_before : take s text ≡ replicate s 0 → take (s - 1) (set text (s - 1) (48 + d)) ≡ replicate (s - 1) 0
  zeros_before e =
      take-set-le (s - 1) text (s - 1) (48 + d) (omega arith)
      ∙ sym (take-take (s - 1) s text (omega arith))
      ∙ ap (λ (l : List ℕ). take (s - 1) l) e
      ∙ take_replicate (s - 1) s (omega arith)

-- the text is done
pub digits_done : (text : List ℕ) (s x : ℕ) → length text ≡ 40 → s ≤ 40 → take s text ≡ replicate s 0 → decimal 40 x ≡ drop s text → record { text = text; start = s } ≡ digits_of x
unfolding digits_of
digits_done text s x room most before written =
    let e : length (drop s text) ≡ 40 - s = rw (length-drop s text, room) in
    let f : 40 - (40 - s) ≡ s = omega arith in
    rw (written, e, f, ← before, take-append-drop s text)
