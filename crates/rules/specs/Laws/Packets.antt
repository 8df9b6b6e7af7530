-- What a plan sends can be written: checks 10 and 9 pass on every packet, its arrays have 16 places; and there are at most 16 of them.
-- Plan by plan: forward, back with solutions or without, reply. Assumes nothing.
use Rattle.std.specs.Prelude.{ℕ, zero, suc, ◌+◌, ◌-◌, ◌≤◌, ◌<◌, ◌≡◌, refl, Bool, true, false, List, [], ◌++◌, length}
use Rattle.std.proofs.Common.{sym, ap, arith, length-append, lt-ltb, le-ltb, eq-eqb, ne_eqb}
use Rattle.base.specs.Limits.{prefix_limit}
use Rattle.base.specs.Members.{Every}
use Rattle.base.specs.Members.Laws.{every_nil, every_cons, every_append}
use Rattle.message.specs.declared.Message.{Message}
use Rattle.message.specs.declared.Kind.{Kind}
use Rattle.message.specs.declared.Kind.TheVariants.{Cpa, Request, Estimate, Solution, Stop}
use Rattle.message.specs.Message.{Packet, filled_to, bound_good, none_or_bound, carried_of, bound_fits, direction_good, address_good, well_formed}
use Rattle.message.specs.Laws.{cost_by, cpa_count, blank-filled, no_bound_by, address_by, formed_by}
use Rattle.message.specs.Sized.{Sized}
use Rattle.rules.specs.declared.Plan.TheVariants.{Forward, Back, Reply}
use Rattle.rules.specs.State.{zeros}
use Rattle.rules.specs.Send.{packet, sent_to, without_bound, bound_only, each, hand_back, solutions, by_plan}

-- ---- every packet

pub every_each : (P : Packet → Type 0) (g : ℕ → Packet) (lo m : ℕ) → ((j : ℕ) → lo ≤ j → j < lo + m → P (g j)) → Every P (each g lo m)
unfolding each
every_each P g lo zero f = every_nil P
every_each P g lo (suc m) f = every_cons P (g lo) (each g (suc lo) m) (f lo (omega arith) (omega arith)) (every_each P g (suc lo) m (λ j a b. f j (omega arith) (omega arith)))

pub each_length : (g : ℕ → Packet) (lo m : ℕ) → length (each g lo m) ≡ m
unfolding each
each_length g lo zero = refl
each_length g lo (suc m) = ap suc (each_length g (suc lo) m)

-- ---- a packet that can be written and read back

pub record Sendable (n : ℕ) (sizes : List ℕ) (p : Packet) : Type 0 where
  pub address : address_good n p.message ≡ true
  pub form : well_formed n sizes p.kind p.message ≡ true
  pub arrays : Sized p.message

-- ---- the fields that the messages of a CPA of unit k + 1 carry, c units filled

pub record Carries (n : ℕ) (sizes : List ℕ) (k c : ℕ) (m : Message) : Type 0 where
  pub sender : m.sender ≡ suc k
  pub stamp : filled_to c sizes m.stamp ≡ true
  pub values : filled_to c sizes m.values ≡ true
  pub cost : m.cost ≤ prefix_limit c
  pub bound : none_or_bound n sizes m.bound m.best ≡ true
  pub arrays : Sized m

-- what solutions need: unit n sends them, with a bound that it has
abbrev pub Improved : ℕ → List ℕ → ℕ → ℕ → List ℕ → Bool → Type 0
Improved n sizes k bound best b = b ≡ true → (suc k ≡ n) × (bound_good n sizes bound best ≡ true)

zero_arrays : length zeros ≡ 16
zero_arrays = refl

module _ (n : ℕ) (sizes : List ℕ) (k c : ℕ) (m : Message) (k<n : k < n) (h : Carries n sizes k c m) where
  -- a CPA to the unit at place j, the next or the one before
  cpa_sendable : (j : ℕ) → j < n → direction_good n Cpa (suc k) (suc j) ≡ true → cpa_count (suc k) (suc j) ≡ c → Sendable n sizes (sent_to Cpa m j)
  cpa_sendable j l d e =
      record {
        address = address_by n (sent_to Cpa m j).message (omega (arith, h.sender)) (omega (arith, h.sender)) (omega arith) (omega arith);
        form =
            formed_by n sizes Cpa (sent_to Cpa m j).message
            record { direction = rw h.sender d; stamps = rw (h.sender, e) h.stamp; values = rw (h.sender, e) h.values; cost = cost_by (carried_of Cpa (sent_to Cpa m j).message) m.cost (rw (h.sender, e) h.cost); bound = h.bound };
        arrays = record { stamp = h.arrays.stamp; values = h.arrays.values; best = h.arrays.best; cost = h.arrays.cost; bound = h.arrays.bound };
      }

  -- a request to a later unit
  request_sendable : c ≡ suc k → (j : ℕ) → k < j → j < n → Sendable n sizes (sent_to Request (without_bound m) j)
  request_sendable e j a b =
      record {
        address = address_by n (sent_to Request (without_bound m) j).message (omega (arith, h.sender)) (omega (arith, h.sender)) (omega arith) (omega arith);
        form =
            formed_by n sizes Request (sent_to Request (without_bound m) j).message
            record {
              direction = lt-ltb m.sender (suc j) (omega (arith, h.sender));
              stamps = rw (h.sender, ← e) h.stamp;
              values = rw (h.sender, ← e) h.values;
              cost = cost_by (carried_of Request (sent_to Request (without_bound m) j).message) m.cost (rw (h.sender, ← e) h.cost);
              bound = no_bound_by sizes 0 zeros refl (blank-filled sizes);
            };
        arrays = record { stamp = h.arrays.stamp; values = h.arrays.values; best = zero_arrays; cost = h.arrays.cost; bound = omega arith };
      }

  -- a stop or a solution to another unit
  bound_sendable : (t : Kind) (j : ℕ) → j < n → direction_good n t (suc k) (suc j) ≡ true → (carried_of t (sent_to t (bound_only m) j).message).stamps ≡ 0 → (carried_of t (sent_to t (bound_only m) j).message).values ≡ 0
      → bound_fits n sizes t m.bound m.best ≡ true → Sendable n sizes (sent_to t (bound_only m) j)
  bound_sendable t j l d e f b =
      record {
        address = address_by n (sent_to t (bound_only m) j).message (omega (arith, h.sender)) (omega (arith, h.sender)) (omega arith) (omega arith);
        form = formed_by n sizes t (sent_to t (bound_only m) j).message record { direction = rw h.sender d; stamps = rw e (blank-filled sizes); values = rw f (blank-filled sizes); cost = cost_by (carried_of t (sent_to t (bound_only m) j).message) 0 (omega arith); bound = b };
        arrays = record { stamp = zero_arrays; values = zero_arrays; best = h.arrays.best; cost = omega arith; bound = h.arrays.bound };
      }

  -- ---- forward

  pub forward_sendable : c ≡ suc k → suc k < n → (b : Bool) → Every (Sendable n sizes) (by_plan n k Forward b m)
  forward_sendable e l b =
      every_cons (Sendable n sizes) (sent_to Cpa m (suc k)) (each (sent_to Request (without_bound m)) (suc k) (n - suc k))
      (cpa_sendable (suc k) l (simp (eq-eqb (suc (suc k)) (suc k + 1) (omega arith))) (rw (lt-ltb (suc k) (suc (suc k)) (omega arith)) (omega arith)))
      (every_each (Sendable n sizes) (sent_to Request (without_bound m)) (suc k) (n - suc k) (λ j lo hi. request_sendable e j (omega arith) (omega arith)))

  -- ---- back

  back_one : c ≡ k → (j : ℕ) → suc j ≡ k → Sendable n sizes (sent_to Cpa m j)
  back_one e j q = cpa_sendable j (omega arith) (rw (eq-eqb (suc k) (suc j + 1) (omega arith), ne_eqb (suc j) (suc k + 1) (λ z. omega arith))) (rw (le-ltb (suc k) (suc j) (omega arith)) (omega arith))

  stop_one : k ≡ 0 → (j : ℕ) → 1 ≤ j → j < n → Sendable n sizes (sent_to Stop (bound_only m) j)
  stop_one z j a b = bound_sendable Stop j b (rw (eq-eqb (suc k) 1 (omega arith), ne_eqb (suc j) (suc k) (λ q. omega arith))) refl refl h.bound

  solution_one : suc k ≡ n → bound_good n sizes m.bound m.best ≡ true → (j : ℕ) → (j ≡ k → ⊥) → j < n → Sendable n sizes (sent_to Solution (bound_only m) j)
  solution_one z g j a b = bound_sendable Solution j b (rw (eq-eqb (suc k) n z, ne_eqb (suc j) (suc k) (λ q. a (omega arith)))) refl refl g

  solutions_sendable : (b : Bool) → Improved n sizes k m.bound m.best b → Every (Sendable n sizes) (solutions n k b m)
  solutions_sendable false i = every_nil (Sendable n sizes)
  solutions_sendable true i =
      every_append (Sendable n sizes) (each (sent_to Solution (bound_only m)) 0 k) (each (sent_to Solution (bound_only m)) (suc k) (n - suc k))
      (every_each (Sendable n sizes) (sent_to Solution (bound_only m)) 0 k (λ j lo hi. solution_one (i refl).0 (i refl).1 j (λ q. omega arith) (omega arith)))
      (every_each (Sendable n sizes) (sent_to Solution (bound_only m)) (suc k) (n - suc k) (λ j lo hi. solution_one (i refl).0 (i refl).1 j (λ q. omega arith) (omega arith)))

  handed_sendable : c ≡ k → (j : ℕ) → j ≡ k → Every (Sendable n sizes) (hand_back n j m)
  handed_sendable e zero q = every_each (Sendable n sizes) (sent_to Stop (bound_only m)) 1 (n - 1) (λ j lo hi. stop_one (sym q) j lo (omega arith))
  handed_sendable e (suc j) q = every_cons (Sendable n sizes) (sent_to Cpa m j) [] (back_one e j q) (every_nil (Sendable n sizes))

  pub back_sendable : c ≡ k → (b : Bool) → Improved n sizes k m.bound m.best b → Every (Sendable n sizes) (by_plan n k Back b m)
  back_sendable e b i = every_append (Sendable n sizes) (hand_back n k m) (solutions n k b m) (handed_sendable e k refl) (solutions_sendable b i)

-- ---- reply

pub reply_sendable : (n : ℕ) (sizes : List ℕ) (k : ℕ) (m : Message) (b : Bool) → Sendable n sizes (packet Estimate m) → Every (Sendable n sizes) (by_plan n k Reply b m)
reply_sendable n sizes k m b w = every_cons (Sendable n sizes) (packet Estimate m) [] w (every_nil (Sendable n sizes))

-- ---- how many

module _ (n k : ℕ) (m : Message) (k<n : k < n) where
  pub forward_few : (b : Bool) → length (by_plan n k Forward b m) ≤ n
  forward_few b = omega (arith, each_length (sent_to Request (without_bound m)) (suc k) (n - suc k))

  others_few : (g : ℕ → Packet) → length (each g 0 k ++ each g (suc k) (n - suc k)) ≡ n - 1
  others_few g = rw (length-append (each g 0 k) (each g (suc k) (n - suc k)), each_length g 0 k, each_length g (suc k) (n - suc k)) (omega arith)

  solutions_few : (b : Bool) → length (solutions n k b m) ≤ n - 1
  solutions_few true = omega (arith, others_few (sent_to Solution (bound_only m)))
  solutions_few false = omega arith

  handed_few : (j : ℕ) → j ≡ k → (b : Bool) → (b ≡ true → suc k ≡ n) → length (hand_back n j m) + length (solutions n k b m) ≤ n
  handed_few zero q false l = omega (arith, each_length (sent_to Stop (bound_only m)) 1 (n - 1))
  handed_few zero q true l = omega (arith, l refl, each_length (sent_to Stop (bound_only m)) 1 (n - 1), others_few (sent_to Solution (bound_only m)))
  handed_few (suc j) q b l = omega (arith, solutions_few b)

  pub back_few : (b : Bool) → (b ≡ true → suc k ≡ n) → length (by_plan n k Back b m) ≤ n
  back_few b l = rw (length-append (hand_back n k m) (solutions n k b m)) (handed_few k refl b l)
