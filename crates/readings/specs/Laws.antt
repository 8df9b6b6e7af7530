-- What is known of the costs that gaps make: they rise with the gap, a finer line's are never more than a coarser one's, and none is above the
-- limit of a pair. The schedule's order is one computed test.
-- Assumes nothing.
use Rattle.std.specs.Prelude.{ℕ, zero, suc, ◌+◌, ◌-◌, ◌≤◌, ◌<◌, ◌≡◌, refl, Bool, true, false, cond, ltb, leb, get_or, ℤ, pos, negsuc, nat_abs}
use Rattle.std.proofs.Common.{arith, lt-ltb, le-ltb, ltb-true, ltb-false, leb-true}
use Rattle.base.specs.Every.{every}
use Rattle.base.specs.Every.Laws.{every_at}
use Rattle.base.specs.Limits.{pair_limit}
use Rattle.readings.specs.Readings.{schedule, penalty, gap, gap_cost}

-- ---- the schedule

-- the test: no entry is above the next
rises : every (λ k. leb (get_or schedule k 0) (get_or schedule (suc k) 0)) 19 ≡ true
rises = refl

schedule-next : (k : ℕ) → suc k < 20 → get_or schedule k 0 ≤ get_or schedule (suc k) 0
schedule-next k h = leb-true (get_or schedule k 0) (get_or schedule (suc k) 0) (every_at (λ i. leb (get_or schedule i 0) (get_or schedule (suc i) 0)) 19 rises k (omega arith))

schedule_rises : (k d : ℕ) → k + d < 20 → get_or schedule k 0 ≤ get_or schedule (k + d) 0
schedule_rises k zero h = let e : k + 0 ≡ k = omega arith in rw e (omega arith)
schedule_rises k (suc d) h =
    let e : k + suc d ≡ suc (k + d) = omega arith in
    rw e (omega (arith, schedule_rises k d (omega arith), schedule-next (k + d) (omega arith)))

pub schedule-most : (k : ℕ) → k < 20 → get_or schedule k 0 ≤ 154
schedule-most k h = let e : k + (19 - k) ≡ 19 = omega arith in omega (arith, rw e at (schedule_rises k (19 - k) (omega arith)))

-- ---- penalties

pub penalty_short : (k : ℕ) → k < 20 → penalty k ≡ get_or schedule k 0
unfolding penalty
penalty_short k h = rw (lt-ltb k 20 h)

pub penalty_long : (k : ℕ) → 20 ≤ k → penalty k ≡ pair_limit
unfolding penalty
penalty_long k h = rw (le-ltb k 20 h)

-- the penalty rises with the gap's size
pub penalty_rises : (k m : ℕ) → k ≤ m → penalty k ≤ penalty m
penalty_rises k m h = go (ltb m 20) (ltb k 20) refl refl
  where
    go : (s t : Bool) → ltb m 20 ≡ s → ltb k 20 ≡ t → penalty k ≤ penalty m
    go true t e f =
        let l = ltb-true m 20 e in
        let d : k + (m - k) ≡ m = omega arith in
        omega (arith, rw d at (schedule_rises k (m - k) (omega arith)), penalty_short k (omega arith), penalty_short m l)
    go false true e f =
        let l = ltb-true k 20 f in
        omega (arith, schedule-most k l, penalty_short k l, penalty_long m (ltb-false m 20 e))
    go false false e f = omega (arith, penalty_long k (ltb-false k 20 f), penalty_long m (ltb-false m 20 e))

pub penalty-most : (k : ℕ) → penalty k ≤ pair_limit
penalty-most k = omega (arith, penalty_rises k (k + 20) (omega arith), penalty_long (k + 20) (omega arith))

-- ---- gaps

-- a finer line never costs more than a coarser one by the same gap
pub finer_costs_less : (size : ℕ) → gap_cost (negsuc size) ≤ gap_cost (pos (suc size))
unfolding gap_cost
finer_costs_less size = omega arith

pub gap-cost-most : (z : ℤ) → gap_cost z ≤ pair_limit
unfolding gap_cost
gap-cost-most (pos size) = penalty-most size
gap-cost-most (negsuc size) = omega (arith, penalty-most (suc size))

-- a gap of two 16-bit readings has 16 bits and a sign
pub gap_small : (a b : ℕ) → a < 65536 → b < 65536 → nat_abs (gap a b) < 65536
gap_small zero b ha hb = omega arith
gap_small (suc a) b ha hb = go (ltb b (suc a)) refl
  where
    go : (t : Bool) → ltb b (suc a) ≡ t → nat_abs (cond t (negsuc (suc a - suc b)) (pos (b - suc a))) < 65536
    go true e = omega (arith, ltb-true b (suc a) e)
    go false e = omega arith
