-- One remainder at the end. Document 02, job 5: "A block's sum is at most 33,227,775 and fits 32 bits: prove that, and that one remainder at the
-- end gives document 01's check for blocks and messages." Twice the sum is at most 255 × 510 × 511, byte by byte. Assumes nothing.
use Rattle.std.specs.Prelude.{ℕ, zero, suc, ◌+◌, ◌*◌, ◌%◌, ◌^◌, ◌≤◌, ◌<◌, ◌≡◌, refl, List, [], ◌∷◌, length, replicate}
use Rattle.std.proofs.Common.{ap, not-suc-le-zero, mul-le-mul, mod-eq_of_lt, arith}
use Rattle.base.specs.Limits.{checked_size}
use Rattle.base.specs.Bytes.Laws.{AllBytes}
use Rattle.checksum.specs.Sum.{modulus, weigh, sum_of}

-- 02: "A block's sum is at most 33,227,775"
abbrev pub block_most : ℕ
block_most = 33227775

-- n weights, from byte k's on, added up
unfoldable weights : ℕ → ℕ → ℕ
weights k zero = 0
weights k (suc n) = k + 1 + weights (k + 1) n

-- more bytes weigh more
weights_up : (k n m : ℕ) → n ≤ m → weights k n ≤ weights k m
unfolding weights
weights_up k zero m h = omega arith
weights_up k (suc n) zero h = absurd (not-suc-le-zero h)
weights_up k (suc n) (suc m) h = let t : weights (k + 1) n ≤ weights (k + 1) m = weights_up (k + 1) n m (omega arith) in omega arith

-- a sum is at most that of as many bytes of 255
weigh-most : (k : ℕ) (s : List ℕ) → AllBytes s → weigh k s ≤ 255 * weights k (length s)
unfolding weights
weigh-most k [] b = omega arith
weigh-most k (x ∷ l) b =
    let t : weigh (k + 1) l ≤ 255 * weights (k + 1) (length l) = weigh-most (k + 1) l (λ i. b (suc i)) in
    let w : k + 1 ≤ k + 1 = omega arith in
    let y : x ≤ 255 = omega (arith, b 0) in
    omega (arith, mul-le-mul w y)

all_weights : weights 0 checked_size ≡ 130305
unfolding weights
all_weights = refl

-- 02: "A block's sum is at most 33,227,775 and fits 32 bits", and so is what is summed up of a block or a message on the way
pub block_most_lem : (s : List ℕ) → AllBytes s → length s ≤ checked_size → weigh 0 s ≤ block_most
block_most_lem s b h = omega (arith, weigh-most 0 s b, weights_up 0 (length s) checked_size h, all_weights)

-- 510 bytes of 255 reach it
pub block_most_reached : weigh 0 (replicate checked_size 255) ≡ block_most
block_most_reached = refl

-- 02: "one remainder at the end gives document 01's check for blocks and messages": the sum kept in 32 bits
pub one_remainder : (s : List ℕ) → AllBytes s → length s ≤ checked_size → weigh 0 s % 2 ^ 32 % modulus ≡ sum_of s
unfolding sum_of
one_remainder s b h = let l : weigh 0 s < 2 ^ 32 = omega (arith, weigh-most 0 s b, weights_up 0 (length s) checked_size h, all_weights) in ap (λ (x : ℕ). x % modulus) (mod-eq_of_lt l)
