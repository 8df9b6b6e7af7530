-- Laws of numbers in bytes: past the end, read and written again, parts of a list of bytes.
-- Assumes nothing.
use Rattle.std.specs.Prelude.{ℕ, suc, ◌+◌, ◌*◌, ◌/◌, ◌%◌, ◌≤◌, ◌<◌, Bool, true, false, List, [], ◌∷◌, ◌≡◌, refl, ltb, get_or, length, take, drop}
use Rattle.std.proofs.Common.{sym, ◌∙◌, arith, mod-eq_of_lt, ltb-true, ltb-false, length-take, drop-cons, get_or-take, get_or-drop}
use Rattle.std.proofs.Math.Nat.{div-div-eq-div-mul}
use Rattle.std.proofs.Math.ListN.{get_or-eq_default}
use Rattle.base.specs.Bytes.{u16_at, u32_at, le16, le32}

-- every number of the list is a byte
abbrev pub AllBytes : List ℕ → Type 0
AllBytes s = (i : ℕ) → get_or s i 0 < 256

-- past the end there are only zeros
pub u16_past : (s : List ℕ) (k : ℕ) → length s ≤ k → u16_at s k ≡ 0
u16_past s k h = omega (arith, get_or-eq_default s 0 {n = k} h, get_or-eq_default s 0 {n = k + 1} (omega arith))

-- a number written reads back as itself
pub u16_of_le16 : (x : ℕ) → x < 65536 → u16_at (le16 x) 0 ≡ x
u16_of_le16 x h = omega arith

digits : (x y z w : ℕ) → x ≡ x % 256 + 256 * y → y ≡ y % 256 + 256 * z → z ≡ z % 256 + 256 * w → w < 256
    → x % 256 + 256 * (y % 256) + 65536 * (z % 256 + 256 * (w % 256)) ≡ x
digits x y z w a b c h = rw (mod-eq_of_lt h) (omega arith)

pub u32_of_le32 : (x : ℕ) → x < 4294967296 → u32_at (le32 x) 0 ≡ x
u32_of_le32 x h =
    let e : x / 65536 ≡ x / 256 / 256 = sym (div-div-eq-div-mul x 256 256) in
    let f : x / 16777216 ≡ x / 256 / 256 / 256 = sym (rw (div-div-eq-div-mul x 256 256, div-div-eq-div-mul x 65536 256)) in
    let g : x / 256 / 256 / 256 < 256 = omega arith in
    rw (e, f) (digits x (x / 256) (x / 256 / 256) (x / 256 / 256 / 256) (omega arith) (omega arith) (omega arith) g)

-- bytes read and written again are the same
pub le16_of_u16 : (a b : ℕ) → a < 256 → b < 256 → le16 (a + 256 * b) ≡ a ∷ b ∷ []
le16_of_u16 a b ha hb =
    let e : (a + 256 * b) % 256 ≡ a = omega arith in
    let f : (a + 256 * b) / 256 ≡ b = omega arith in
    rw (e, f, mod-eq_of_lt hb)

pub le32_of_u32 : (a b c d : ℕ) → a < 256 → b < 256 → c < 256 → d < 256
    → le32 (a + 256 * b + 65536 * (c + 256 * d)) ≡ a ∷ b ∷ c ∷ d ∷ []
le32_of_u32 a b c d ha hb hc hd =
    let x : ℕ = a + 256 * b + 65536 * (c + 256 * d) in
    let p : x % 256 ≡ a = omega arith in
    let q : x / 256 ≡ b + 256 * (c + 256 * d) = omega arith in
    let r : x / 65536 ≡ c + 256 * d = omega arith in
    let s : x / 16777216 ≡ d = omega arith in
    let q' : (b + 256 * (c + 256 * d)) % 256 ≡ b = omega arith in
    let r' : (c + 256 * d) % 256 ≡ c = omega arith in
    rw (p, q, q', r, r', s, mod-eq_of_lt hd)

-- ---- the bytes of a list, read and written again

pub two_bytes : (s : List ℕ) (at : ℕ) → at + 2 ≤ length s → take 2 (drop at s) ≡ get_or s at 0 ∷ get_or s (at + 1) 0 ∷ []
two_bytes s at h =
    let e1 : at + 1 ≡ suc at = omega arith in
    rw (e1, drop-cons s at 0 (omega arith), drop-cons s (suc at) 0 (omega arith))

pub four_bytes : (s : List ℕ) (at : ℕ) → at + 4 ≤ length s → take 4 (drop at s) ≡ get_or s at 0 ∷ get_or s (at + 1) 0 ∷ get_or s (at + 2) 0 ∷ get_or s (at + 3) 0 ∷ []
four_bytes s at h =
    let e1 : at + 1 ≡ suc at = omega arith in
    let e2 : at + 2 ≡ suc (suc at) = omega arith in
    let e3 : at + 3 ≡ suc (suc (suc at)) = omega arith in
    rw (e1, e2, e3, drop-cons s at 0 (omega arith), drop-cons s (suc at) 0 (omega arith), drop-cons s (suc (suc at)) 0 (omega arith), drop-cons s (suc (suc (suc at))) 0 (omega arith))

pub le16_again : (s : List ℕ) (at : ℕ) → at + 2 ≤ length s → AllBytes s → le16 (u16_at s at) ≡ take 2 (drop at s)
le16_again s at h b = le16_of_u16 (get_or s at 0) (get_or s (at + 1) 0) (b at) (b (at + 1)) ∙ sym (two_bytes s at h)

pub le32_again : (s : List ℕ) (at : ℕ) → at + 4 ≤ length s → AllBytes s → le32 (u32_at s at) ≡ take 4 (drop at s)
le32_again s at h b =
    let f : at + 2 + 1 ≡ at + 3 = omega arith in
    rw f (le32_of_u32 (get_or s at 0) (get_or s (at + 1) 0) (get_or s (at + 2) 0) (get_or s (at + 3) 0) (b at) (b (at + 1)) (b (at + 2)) (b (at + 3))) ∙ sym (four_bytes s at h)

-- a part of a list of bytes is one
pub bytes_take : (n : ℕ) (s : List ℕ) → AllBytes s → AllBytes (take n s)
bytes_take n s bytes i = go (ltb i n) refl
  where
    go : (t : Bool) → ltb i n ≡ t → get_or (take n s) i 0 < 256
    go true e = rw (get_or-take n s i 0 (ltb-true i n e)) (bytes i)
    go false e =
        let h = ltb-false i n e in
        let l : length (take n s) ≤ i = simp length-take (omega arith) in
        rw (get_or-eq_default (take n s) 0 l) (omega arith)

pub bytes_drop : (n : ℕ) (s : List ℕ) → AllBytes s → AllBytes (drop n s)
bytes_drop n s bytes i = rw (get_or-drop n s i 0) (bytes (n + i))
