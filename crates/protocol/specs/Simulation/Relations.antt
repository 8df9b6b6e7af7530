-- What corresponds: a packet to a message of the machine, a unit's state to an agent at rest, with its CPA in hand and with the own
-- value off, and what a unit decides to what the machine's step gives.
-- In order: stamps and values; packets; states; decisions, with their records.
-- Assumes nothing.
use Prim.Native.Nat.{ℕ, zero, suc, ◌+◌, ◌≤◌, ◌<◌}
use Rattle.std.specs.Prelude.{◌≡◌, ◌⊎◌, Bool, List, [], ◌∷◌, ◌++◌, reverse, length, get_or, Some}
use Rattle.std.proofs.Common.{sym, ap, ◌∙◌, arith}
use Rattle.costs.specs.declared.ValueOrder.{ValueOrder}
use Rattle.costs.specs.Instance.{Instance, view_by}
use Rattle.costs.specs.Laws.{cost_of}
use Rattle.costs.specs.Order.{place_tried, value_at}
use Rattle.costs.specs.Order.Laws.{value_of_none, place_of_value}
use Rattle.costs.specs.Laws.Prefix.{pre, length_pre}
use Rattle.costs.specs.Laws.Tried.{values_at, length_values}
use Rattle.message.specs.declared.Kind.TheVariants.{Cpa, Request, Estimate, Solution, Stop}
use Rattle.message.specs.Message.{Packet}
use Rattle.rules.specs.declared.Unit.{Unit as UnitState}
use Rattle.rules.specs.State.{zeros}
use Rattle.rules.specs.Step.{Decision, refused, accepted, Written, recorded, bare_cost}
use Rattle.rules.specs.Send.{packets, each}
use Rattle.protocol.specs.Machine as M
use Rattle.protocol.specs.Machine.{Msg, Agent, Result, Record, values_of, stamp_of, to_each}
use Rattle.protocol.specs.Simulation.Stamps.{rank, Digits, FilledTo, zero_place, zeros-filled, zeros_digits}

-- ---- stamps and values, filled for the first f units

pub record StampIs (f : ℕ) (l : List ℕ) (s : ℕ) : Type 0 where
  pub filled : FilledTo f l
  pub digits : Digits l
  pub is : rank f l ≡ s

-- the machine's values are places in the order tried
pub record ValuesAre (order : ValueOrder) (I : Instance) (f : ℕ) (l b : List ℕ) : Type 0 where
  pub filled : FilledTo f l
  pub are : pre f l ≡ values_at order I b

-- as many of them as are filled
pub prefix_length : (order : ValueOrder) (I : Instance) (f : ℕ) (l b : List ℕ) → pre f l ≡ values_at order I b → length b ≡ f
prefix_length order I f l b e = sym (length_values order I b) ∙ ap length (sym e) ∙ length_pre f l

module _ (order : ValueOrder) (I : Instance) where
  -- the machine's best is empty and the array all zero, or it is read off the array
  abbrev pub BestIs : List ℕ → List ℕ → Type 0
  BestIs a l = ((l ≡ []) × (a ≡ zeros)) ⊎ (pre I.n a ≡ values_at order I l)

  -- ---- packets

  abbrev pub Reads : Packet → Msg → Type 0
  Reads p (M.down k s b B l) =
      (p.kind ≡ Cpa) × (p.message.receiver ≡ suc k) × (p.message.sender < suc k) × StampIs k p.message.stamp s × ValuesAre order I k p.message.values b
      × (Some p.message.cost ≡ cost_of I (values_at order I b)) × (p.message.bound ≡ B) × BestIs p.message.best l
  Reads p (M.back k s b B l) =
      (p.kind ≡ Cpa) × (p.message.receiver ≡ suc k) × (suc k < p.message.sender) × StampIs (suc k) p.message.stamp s × ValuesAre order I (suc k) p.message.values b
      × (Some p.message.cost ≡ cost_of I (values_at order I b)) × (p.message.bound ≡ B) × BestIs p.message.best l
  Reads p (M.request k j s b) =
      (p.kind ≡ Request) × (p.message.receiver ≡ suc k) × (p.message.sender ≡ suc j) × StampIs (suc j) p.message.stamp s × ValuesAre order I (suc j) p.message.values b
  Reads p (M.estimate k j s e) =
      (p.kind ≡ Estimate) × (p.message.receiver ≡ suc k) × (p.message.sender ≡ suc j) × StampIs (suc k) p.message.stamp s × (p.message.cost ≡ e)
  Reads p (M.solution k B l) = (p.kind ≡ Solution) × (p.message.receiver ≡ suc k) × (p.message.bound ≡ B) × BestIs p.message.best l
  Reads p (M.stop k B l) = (p.kind ≡ Stop) × (p.message.receiver ≡ suc k) × (p.message.bound ≡ B) × BestIs p.message.best l

  -- packets read one by one
  abbrev pub ReadAll : List Packet → List Msg → Type 0
  ReadAll [] [] = Unit {0}
  ReadAll [] (y ∷ ys) = ⊥
  ReadAll (x ∷ xs) [] = ⊥
  ReadAll (x ∷ xs) (y ∷ ys) = Reads x y × ReadAll xs ys

  pub read_each : (g : ℕ → Packet) (g' : ℕ → Msg) (lo m : ℕ) → ((j : ℕ) → lo ≤ j → j < lo + m → Reads (g j) (g' j)) → ReadAll (each g lo m) (to_each g' lo m)
  unfolding each
  read_each g g' lo zero f = tt
  read_each g g' lo (suc m) f = (f lo (omega arith) (omega arith), read_each g g' (suc lo) m (λ j a b. f j (omega arith) (omega arith)))

  pub read_append : (a b : List Packet) (c d : List Msg) → ReadAll a c → ReadAll b d → ReadAll (a ++ b) (c ++ d)
  read_append [] b [] d h g = g
  read_append [] b (y ∷ c) d h g = absurd h
  read_append (x ∷ a) b [] d h g = absurd h
  read_append (x ∷ a) b (y ∷ c) d h g = (h.0, read_append a b c d h.1 g)

-- ---- states of the unit at place k. A part is stated of its fields alone, so that it stays when others change.

-- what holds whether the CPA has an own value or not: threshold, bound, best, counter and stopped, of the unit and of the agent
pub record CommonOf (order : ValueOrder) (I : Instance) (k : ℕ) (threshold : List ℕ) (bound : ℕ) (best : List ℕ) (counter : ℕ) (stopped : Bool) (t B : ℕ) (l : List ℕ) (c : ℕ) (z : Bool) : Type 0 where
  pub size : length threshold ≡ 16
  pub digits : Digits threshold
  pub threshold_is : rank (suc k) threshold ≡ t
  pub bound_is : bound ≡ B
  pub best_is : BestIs order I best l
  pub counter_is : counter ≡ c
  pub stopped_is : stopped ≡ z

abbrev pub Common : ValueOrder → Instance → ℕ → UnitState → Agent → Type 0
Common order I k s u = CommonOf order I k s.threshold s.bound s.best s.counter s.stopped u.threshold u.bound u.best u.counter u.stopped

-- the CPA out, or none where the own value is 0
pub record CpaOf (order : ValueOrder) (I : Instance) (k : ℕ) (stamp values : List ℕ) (cost : ℕ) (v s : ℕ) (b : List ℕ) (c : ℕ) : Type 0 where
  pub own : get_or values k 0 ≡ value_at (view_by order I k) v
  pub stamp-filled : FilledTo (suc k) stamp
  pub stamp_digits : Digits stamp
  pub values-filled : FilledTo (suc k) values
  pub prefix_stamp : 1 ≤ v → rank k stamp ≡ s
  pub own-stamp : 1 ≤ v → get_or stamp k 0 ≡ c
  pub prefix : 1 ≤ v → pre k values ≡ values_at order I b
  pub cost_is : 1 ≤ v → Some cost ≡ cost_of I (values_at order I (v ∷ b))

pub no_cpa : (order : ValueOrder) (I : Instance) (k : ℕ) {c s d : ℕ} {b : List ℕ} → CpaOf order I k zeros zeros c 0 s b d
no_cpa order I k =
    record {
      own = zero_place k ∙ sym (value_of_none (view_by order I k));
      stamp-filled = zeros-filled (suc k);
      stamp_digits = zeros_digits;
      values-filled = zeros-filled (suc k);
      prefix_stamp = λ z. absurd (omega arith);
      own-stamp = λ z. absurd (omega arith);
      prefix = λ z. absurd (omega arith);
      cost_is = λ z. absurd (omega arith);
    }

-- the own value's place in the order tried is the machine's own value
pub own-place : (order : ValueOrder) (I : Instance) (k p : ℕ) (values : List ℕ) → get_or values k 0 ≡ value_at (view_by order I k) p → p ≤ I.dom k
    → place_tried (view_by order I k) (get_or values k 0) ≡ p
own-place order I k p values e le = ap (place_tried (view_by order I k)) e ∙ place_of_value (view_by order I k) p le

-- at rest: between two messages
pub record AtRest (order : ValueOrder) (I : Instance) (k : ℕ) (s : UnitState) (u : Agent) : Type 0 where
  pub common : Common order I k s u
  pub estimates_size : length s.estimates ≡ 16
  pub estimates : (j : ℕ) → j < 16 → get_or s.estimates j 0 ≡ u.estimates j
  pub cpa : CpaOf order I k s.stamp s.values s.cost u.own u.prefix_stamp u.prefix u.counter

-- a CPA in hand, with its own value or without
pub record HandOf (order : ValueOrder) (I : Instance) (k : ℕ) (stamp values : List ℕ) (bare v s : ℕ) (b : List ℕ) : Type 0 where
  pub own : get_or values k 0 ≡ value_at (view_by order I k) v
  pub stamp-filled : FilledTo (suc k) stamp
  pub stamp_digits : Digits stamp
  pub prefix_stamp : rank k stamp ≡ s
  pub values-filled : FilledTo (suc k) values
  pub prefix : pre k values ≡ values_at order I b
  pub cost_is : Some bare ≡ cost_of I (values_at order I b)

pub record InHand (order : ValueOrder) (I : Instance) (k : ℕ) (s : UnitState) (u : Agent) : Type 0 where
  pub common : Common order I k s u
  pub hand : HandOf order I k s.stamp s.values (bare_cost (view_by order I k) s) u.own u.prefix_stamp u.prefix

-- the own value off; v is the place of the last value tried
pub record OwnOff (order : ValueOrder) (I : Instance) (k v : ℕ) (s : UnitState) (u : Agent) : Type 0 where
  pub common : Common order I k s u
  pub tried : v ≡ u.own
  pub stamp : StampIs k s.stamp u.prefix_stamp
  pub values : ValuesAre order I k s.values u.prefix
  pub cost : Some s.cost ≡ cost_of I (values_at order I u.prefix)

-- ---- decisions

-- a record of the unit at place k
abbrev pub RecordIs : ValueOrder → Instance → ℕ → Written → Record → Type 0
RecordIs order I k r q = (r.unit ≡ suc k) × (r.values ≡ reverse (values_at order I (values_of q))) × (rank (suc k) r.stamp ≡ stamp_of q)

-- the log L, newest first, grows by the records ws, oldest first, to L'
abbrev pub Grown : ValueOrder → Instance → ℕ → List Record → List Written → List Record → Type 0
Grown order I k L [] L' = L' ≡ L
Grown order I k L (r ∷ ws) L' = (q : Record) × RecordIs order I k r q × Grown order I k (q ∷ L) ws L'

-- The machine refuses by 11 only.
abbrev pub Agrees : ValueOrder → Instance → ℕ → List Record → Decision → Result → Type 0
Agrees order I k L (refused r) M.refused = Unit {0}
Agrees order I k L (refused r) (M.done u ms) = ⊥
Agrees order I k L (accepted s p ws) M.refused = ⊥
Agrees order I k L (accepted s p ws) (M.done u ms) = AtRest order I k s u × ReadAll order I (packets I.n k p) ms × Grown order I k L ws u.log

pub agrees_after : (order : ValueOrder) (I : Instance) (k : ℕ) (L : List Record) (r : Written) (q : Record) (o : Decision) (res : Result) → RecordIs order I k r q → Agrees order I k (q ∷ L) o res → Agrees order I k L (recorded r o) res
agrees_after order I k L r q (refused x) M.refused e h = tt
agrees_after order I k L r q (refused x) (M.done u ms) e h = h
agrees_after order I k L r q (accepted s p ws) M.refused e h = h
agrees_after order I k L r q (accepted s p ws) (M.done u ms) e h = (h.0, h.1, (q, e, h.2))
