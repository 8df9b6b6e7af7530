-- One turn of trying values: what `try_after` gives by the value that comes next, by whether it is written and by whom.
-- By the clauses of `try_after`, each test decided by a sum of numbers. Assumes nothing.
use Rattle.std.specs.Prelude.{Some, None}
use Prim.Native.Nat.{ℕ, suc, ◌+◌, ◌-◌, ◌≤◌, ◌<◌}
use native.Mathlib.Omega.{arith}
use mathlib.Core.Path.{◌≡◌, refl, sym, ap, ◌∙◌}
use mathlib.Core.Bool.{Bool, true, false}
use mathlib.Core.List.{List}
use lib.Dec.{ltb}
use lib.ListN.{length, get_or, set}
use lib.Seq.{set-set, set-get_or}
use borrow.Author.Tests.{lt-ltb, le-ltb, eq-eqb, ne_eqb}
use Rattle.base.specs.Limits.{NONE}
use Rattle.costs.specs.Cost.{Cost, ◌⊕◌, below, as_number}
use Rattle.costs.specs.Instance.{View}
use Rattle.costs.specs.Bounds.{cost_with, h}
use Rattle.costs.specs.Order.{next, left}
use Rattle.rules.specs.declared.Unit.{Unit}
use Rattle.rules.specs.declared.Held.{Held}
use Rattle.rules.specs.State.{zeros, with_best, own_cost}
use Rattle.rules.specs.Step.{Decision, refused, accepted, Written, recorded, take_off, write, record_of, backtrack, try_after}
use Rattle.rules.specs.Tests.{cost_at, holding, improved_by}
use Rattle.rules.specs.Ready.{IsPaid, decided_of, sent_on, counted}
use Rattle.rules.specs.Laws.Assign.{paid_written}
use Rattle.decide.proofs.Later.{left_more, left_none}

pub counted_none : (was : Unit) (o : Decision) → decided_of was o ≡ counted 0 was o
counted_none was (refused r) = refl
counted_none was (accepted u s ws) = let e : 0 + length ws ≡ length ws = omega arith in rw e

counted_more : (k : ℕ) (was : Unit) (r : Written) (o : Decision) → counted k was (recorded r o) ≡ counted (k + 1) was o
counted_more k was r (refused x) = refl
counted_more k was r (accepted u s ws) = let e : k + suc (length ws) ≡ k + 1 + length ws = omega arith in rw e

-- ---- the test of a value: NONE, for what is forbidden, reaches every bound

below_sum : (x : ℕ) (c d : Cost) (B : ℕ) → B ≤ NONE → below (Some x ⊕ c ⊕ d) B ≡ ltb (x + as_number c + as_number d) B
below_sum x (Some p) (Some a) B l = refl
below_sum x (Some p) None B l = sym (le-ltb (x + p + NONE) B (omega arith))
below_sum x None d B l = sym (le-ltb (x + NONE + as_number d) B (omega arith))

number_sum : (x : ℕ) (c : Cost) → x + as_number c < NONE → as_number (Some x ⊕ c) ≡ x + as_number c
number_sum x (Some p) l = refl
number_sum x None l = absurd (omega arith)

-- ---- unit n writes a value and has it off again: the CPA in hand is as it was, the cost too, as it was bare and what the value costs

-- the own value is off, with room for one
pub record Off (k : ℕ) (u : Unit) : Type 0 where
  pub stamp : get_or u.stamp k 0 ≡ 0
  pub value : get_or u.values k 0 ≡ 0
  pub room : k < length u.values

off_again : (k x : ℕ) (l : List ℕ) → get_or l k 0 ≡ 0 → set (set l k x) k 0 ≡ l
off_again k x l e = set-set l k x 0 ∙ ap (λ (y : ℕ). set l k y) (sym e) ∙ set-get_or l k 0

improved_off : (w : View) (x paid c : ℕ) (u : Unit) → Off w.place u → IsPaid w u.values x paid → c ≡ u.cost + paid
    → take_off w (with_best (write w x c u).cost (write w x c u).values (write w x c u)) ≡ improved_by w x c u
improved_off w x paid c u off p q =
    let bare : c - own_cost w (write w x c u) ≡ u.cost = omega (arith, paid_written w u x c off.room, p, q) in
    rw (bare, off_again w.place (suc u.counter) u.stamp off.stamp, off_again w.place x u.values off.value)

-- ---- one turn, v tried last and x next

module _ (w : View) (v x k : ℕ) (was : Unit) (b : Bool) (u : Unit) (after : x ≡ next w v) (some : 1 ≤ x) (small : u.bound ≤ NONE)
    (paid ahead : ℕ) (p : IsPaid w u.values x paid) (a : ahead ≡ as_number (h w x)) where
  tested : (t : Bool) → ltb (u.cost + paid + ahead) u.bound ≡ t → below (cost_at w x u ⊕ h w x) u.bound ≡ t
  tested t e = below_sum u.cost (cost_with w u.values w.place x) (h w x) u.bound small ∙ rw (← p, ← a) e

  -- a value that is forbidden or reaches the bound is passed over
  pub passed_over : u.bound ≤ u.cost + paid + ahead → counted k was (try_after w (left w v) v b u) ≡ counted k was (try_after w (left w x) x b u)
  unfolding try_after
  passed_over l = rw (left_more w v x after some, ← after, tested false (le-ltb _ _ l))

  module _ (cost : ℕ) (sum : cost ≡ u.cost + paid) (l : cost + ahead < u.bound) where
    under : below (cost_at w x u ⊕ h w x) u.bound ≡ true
    under = tested true (lt-ltb (u.cost + paid + ahead) u.bound (omega (arith, sum, l)))

    cost_is : as_number (cost_at w x u) ≡ cost
    cost_is = number_sum u.cost (cost_with w u.values w.place x) (omega (arith, small, l, sum, p)) ∙ omega (arith, sum, p)

    -- unit n writes it, takes it as its best, and goes on
    pub written_last : suc w.place ≡ w.n → Off w.place u → counted k was (try_after w (left w v) v b u) ≡ counted (k + 1) was (try_after w (left w x) x true (improved_by w x cost u))
    unfolding try_after
    written_last e off =
        rw (left_more w v x after some, ← after, under, cost_is, eq-eqb _ _ e, ← improved_off w x paid cost u off p sum)
        (counted_more k was (record_of w (write w x cost u)) (try_after w (left w x) x true (take_off w (with_best cost (write w x cost u).values (write w x cost u)))))

    -- another unit writes it and sends it on
    pub written_on : (suc w.place ≡ w.n → ⊥) → counted k was (try_after w (left w v) v b u) ≡ sent_on w (k + 1) (write w x cost u)
    unfolding try_after
    written_on e = rw (left_more w v x after some, ← after, under, cost_is, ne_eqb _ _ e)

-- no value is left
pub none_left : (w : View) (v k : ℕ) (was : Unit) (b : Bool) (u : Unit) → next w v ≡ 0 → counted k was (try_after w (left w v) v b u) ≡ counted k was (backtrack w b u)
unfolding try_after
none_left w v k was b u l = rw (left_none w v l)

-- what holds whenever a turn of the loop begins, of d values v being tried last, the state s having been held before: the CPA in hand is as it
-- was, and the whole is what is left, after the records written
pub record Tried (w : View) (own d from : ℕ) (s : Held) (v records : ℕ) (improved : Bool) (t : Held) : Type 0 where
  pub within : v ≤ d
  pub written : records + left w v ≤ 16
  pub counter : t.counter + left w v ≤ 32
  pub threshold : get_or t.threshold (own - 1) 0 ≤ 33
  pub stamp : t.stamp ≡ s.stamp
  pub values : t.values ≡ s.values
  pub whole : (was : Unit) → decided_of was (try_after w (left w from) from false (holding s zeros)) ≡ counted records was (try_after w (left w v) v improved (holding t zeros))
