-- The check's law. Document 01: "changing just one byte changes the sum modulo 65,521, is proved for any length below 65,520".
-- If 65,521 divided w × d, with d a difference of two bytes, it would divide w × r for the smaller r = 65,521 % d, which no d from 2 to 255 makes 0, and
-- so on down to w × 1, where w is a weight from 1 to 65,519. Assumes nothing.
use Rattle.std.specs.Prelude.{ℕ, zero, suc, ◌+◌, ◌*◌, ◌-◌, ◌/◌, ◌%◌, ◌≤◌, ◌<◌, ◌≡◌, refl, Bool, true, ◌&&◌, List, ◌∷◌, ◌++◌, ◌⊎◌, ltb, get_or, length, take, drop, set}
use Rattle.std.proofs.Common.{sym, ap, ◌∙◌, inl, inr, ⊎_elim, not-suc-le-zero, eq-or-lt_of_le, mul-add, mul_assoc, mul-one, mul_comm, div-add-mod', mod-lt, zero-add, arith, ltb-true, length-take-le}
use Rattle.std.proofs.lemmas.List.{set_split}
use Rattle.std.proofs.Math.Seq.{split_at}
use Rattle.base.specs.Shape.Laws.{and_left, and_right}
use Rattle.checksum.specs.Sum.{modulus, weigh, sum_of}
use Rattle.checksum.specs.Sum.Laws.{weigh_append}

-- none of 2, .., n + 1 divides 65,521
unfoldable undivided : ℕ → Bool
undivided zero = true
undivided (suc n) = ltb 0 (modulus % (n + 2)) && undivided n

undivided_at : (n d : ℕ) → undivided n ≡ true → d < n → 0 < modulus % (d + 2)
unfolding undivided
undivided_at zero d e h = absurd (not-suc-le-zero h)
undivided_at (suc n) d e h =
    let le : d ≤ n = omega arith in
    ⊎_elim
    (λ (f : d ≡ n). rw f (ltb-true 0 (modulus % (n + 2)) (and_left _ _ e)))
    (λ (l : d < n). undivided_at n d (and_right (ltb 0 (modulus % (n + 2))) (undivided n) e) l)
    (eq-or-lt_of_le le)

no_divisor : (d : ℕ) → 2 ≤ d → d < 256 → 0 < modulus % d
unfolding undivided
no_divisor d l h = let f : d - 2 + 2 ≡ d = omega arith in rw f at (undivided_at 254 (d - 2) refl (omega arith))

-- w × d is no multiple of 65,521, for weights w and differences d of bytes; the fuel bounds d
descend : (fuel w d q : ℕ) → d ≤ fuel → 0 < d → d < 256 → 0 < w → w < modulus → w * d ≡ modulus * q → ⊥
descend zero w d q f a b h l e = omega arith
descend (suc fuel) w d q f a b h l e =
    ⊎_elim
    (λ (one : 1 ≡ d). let g : w * 1 ≡ modulus * q = rw (← one) at e in omega (arith, mul-one w))
    (λ (two : 1 < d).
    let t : ℕ = modulus / d in
    let r : ℕ = modulus % d in
    let m : t * d + r ≡ modulus = div-add-mod' modulus d in
    let less : r < d = mod-lt modulus a in
    let p : modulus * (q * t) + w * r ≡ modulus * w =
    rw (← mul_assoc modulus q t, ← e, mul_assoc w d t, mul_comm d t, ← mul-add w (t * d) r, m, mul_comm w modulus) in
    descend fuel w r (w - q * t) (omega arith) (no_divisor d two b) (omega arith) h l (omega arith))
    (eq-or-lt_of_le a)

-- the sum with y + 1 more at a place of weight w is another one
moved : (w x y a b : ℕ) → y < 255 → 0 < w → w < modulus → (a + (w * (x + (y + 1)) + b)) % modulus ≡ (a + (w * x + b)) % modulus → ⊥
moved w x y a b hy h l e =
    let f : w * (x + (y + 1)) ≡ w * x + w * (y + 1) = mul-add w x (y + 1) in
    let g : w * (y + 1) ≡ modulus * (w * (y + 1) / modulus) = omega arith in
    descend 255 w (y + 1) (w * (y + 1) / modulus) (omega arith) (omega arith) (omega arith) h l g

order : (x y : ℕ) → (x ≤ y) ⊎ (y ≤ x)
order zero y = inl (omega arith)
order (suc x) zero = inr (omega arith)
order (suc x) (suc y) = ⊎_elim (λ (h : x ≤ y). inl (omega arith)) (λ (h : y ≤ x). inr (omega arith)) (order x y)

-- the sum of a list of which byte k is x
weigh_at : (s : List ℕ) (k x : ℕ) → k < length s
    → weigh 0 (take k s ++ x ∷ drop (suc k) s) ≡ weigh 0 (take k s) + ((k + 1) * x + weigh (k + 1) (drop (suc k) s))
weigh_at s k x h =
    let e : length (take k s) ≡ k = length-take-le k s (omega arith) in
    rw (weigh_append 0 (take k s) (x ∷ drop (suc k) s), e, zero-add)

-- byte k of s is put to another value x: the sum is another one
pub one_byte : (s : List ℕ) (k x : ℕ) → length s < 65520 → k < length s → get_or s k 0 < 256 → x < 256 → (x ≡ get_or s k 0 → ⊥)
    → sum_of (set s k x) ≡ sum_of s → ⊥
unfolding sum_of
one_byte s k x hs hk hy hx differ e =
    let y : ℕ = get_or s k 0 in
    let a : ℕ = weigh 0 (take k s) in
    let b : ℕ = weigh (k + 1) (drop (suc k) s) in
    let new : weigh 0 (set s k x) ≡ a + ((k + 1) * x + b) = rw (set_split s k x hk) (weigh_at s k x hk) in
    let old : weigh 0 s ≡ a + ((k + 1) * y + b) = ap (weigh 0) (split_at s k 0 hk) ∙ weigh_at s k y hk in
    let same : (a + ((k + 1) * x + b)) % modulus ≡ (a + ((k + 1) * y + b)) % modulus =
    ap (λ (z : ℕ). z % modulus) (sym new) ∙ e ∙ ap (λ (z : ℕ). z % modulus) old in
    ⊎_elim
    (λ (up : x ≤ y).
    let f : x + (y - x - 1 + 1) ≡ y = omega arith in
    moved (k + 1) x (y - x - 1) a b (omega arith) (omega arith) (omega arith) (rw f (sym same)))
    (λ (down : y ≤ x).
    let f : y + (x - y - 1 + 1) ≡ x = omega arith in
    moved (k + 1) y (x - y - 1) a b (omega arith) (omega arith) (omega arith) (rw f same))
    (order x y)
