-- A count with m more is the number with m more, modulo 2^128. By the two digits of a number to the base 2^64, for any base.
-- Assumes nothing.
use Rattle.std.specs.Prelude.{ℕ, ◌+◌, ◌*◌, ◌/◌, ◌%◌, ◌^◌, ◌<◌, zero, ◌≡◌, false, eqb}
use Rattle.std.proofs.Common.{sym, ap, ◌∙◌, arith, mod-eq_of_lt, add_assoc, div-add-mod', ne_eqb}
use Rattle.std.proofs.Math.Nat.{mul-add-div_right, mul-add-mod_self_right}
use Rattle.std.proofs.Math.Arith.{mod-mul}
use Rattle.runs.specs.declared.Count.{Count}
use Rattle.runs.specs.Count.{value_of, plus}

-- two digits to the base b with m more
digits_plus : (b l h m : ℕ) → zero < b → ((h + (l + m) / b) % b) * b + (l + m) % b ≡ (h * b + l + m) % (b * b)
digits_plus b l h m pos =
    let e : h * b + l + m ≡ h * b + (l + m) = add_assoc (h * b) l m in
    sym (rw e (mod-mul (h * b + (l + m)) pos pos ∙ rw (mul-add-div_right pos h (l + m), mul-add-mod_self_right h b (l + m))))

pub plus_value : (m : ℕ) (c : Count) → value_of (plus m c) ≡ (value_of c + m) % (2 ^ 64 * 2 ^ 64)
unfolding plus
plus_value m c = digits_plus (2 ^ 64) c.low c.high m (omega arith)

-- what the types say of a count; it has these words still with m more, and none more is the same count
abbrev pub Words : Count → Type 0
Words c = (c.low < 2 ^ 64) × (c.high < 2 ^ 64)

pub plus_words : (m : ℕ) (c : Count) → Words (plus m c)
unfolding plus
plus_words m c = (omega arith, omega arith)

pub plus_none : (c : Count) → Words c → plus 0 c ≡ c
unfolding plus
plus_none c w =
    let l : (c.low + 0) % 2 ^ 64 ≡ c.low = omega (arith, w.0) in
    let z : (c.low + 0) / 2 ^ 64 ≡ 0 = omega (arith, w.0) in
    let h : (c.high + (c.low + 0) / 2 ^ 64) % 2 ^ 64 ≡ c.high = rw z (omega (arith, w.1)) in
    rw (l, h)

-- without the modulus, while it lasts
pub plus_exact : (m : ℕ) (c : Count) → value_of c + m < 2 ^ 64 * 2 ^ 64 → value_of (plus m c) ≡ value_of c + m
plus_exact m c h = plus_value m c ∙ mod-eq_of_lt h

mod_more : (m a : ℕ) → (a % m + 1) % m ≡ (a + 1) % m
mod_more m a = sym (mul-add-mod_self_right (a / m) m (a % m + 1)) ∙ ap (λ x. x % m) (sym (add_assoc (a / m * m) (a % m) 1) ∙ ap (λ x. x + 1) (div-add-mod' a m))

-- and with it, of a count that stands for a number modulo 2^128
pub plus_one : (c : Count) (k : ℕ) → value_of c ≡ k % (2 ^ 64 * 2 ^ 64) → value_of (plus 1 c) ≡ (k + 1) % (2 ^ 64 * 2 ^ 64)
plus_one c k e = plus_value 1 c ∙ ap (λ y. (y + 1) % (2 ^ 64 * 2 ^ 64)) e ∙ mod_more (2 ^ 64 * 2 ^ 64) k

-- a number is 0 where both its words are
positive : (h l : ℕ) → (h ≡ 0 → ⊥) → h * 2 ^ 64 + l ≡ 0 → ⊥
positive h l some e = some (omega arith)

low_only : (h l : ℕ) → h ≡ 0 → h * 2 ^ 64 + l ≡ l
low_only h l e = omega arith

pub value_some : (c : Count) → (c.high ≡ 0 → ⊥) → eqb (value_of c) 0 ≡ false
value_some c some = ne_eqb (value_of c) 0 (positive c.high c.low some)

pub value_low : (c : Count) → c.high ≡ 0 → eqb (value_of c) 0 ≡ eqb c.low 0
value_low c e = ap (λ (x : ℕ). eqb x 0) (low_only c.high c.low e)
