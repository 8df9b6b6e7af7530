-- Many units in range (`AllInRange`): fresh ones are, and a step of one on a packet that can be written leaves all in range and sends packets that can be
-- written (`step_in_range`). By the law of one unit's step; no pool is met here.
-- Assumes nothing.
use Rattle.std.specs.Prelude.{ℕ, zero, suc, ◌≤◌, ◌<◌, pred, ◌≡◌, refl, ◌≢◌, Bool, true, false, List, eqb, ltb, length, get_or, set, replicate}
use Rattle.std.proofs.Common.{sym, ◌∙◌, subst, arith, length-set, get_or-set_same, get_or-set_other, eqb-true, ltb-true, ltb-false}
use Rattle.std.proofs.lemmas.List.{get_or-replicate}
use Rattle.std.proofs.Math.ListN.{get_or-eq_default}
use Rattle.std.proofs.lemmas.Bool.{eqb-false}
use Rattle.base.specs.Shape.Laws.{and_right}
use Rattle.base.specs.Members.{Every}
use Rattle.costs.specs.declared.ValueOrder.{ValueOrder}
use Rattle.costs.specs.Instance.{Instance, view_by}
use Rattle.costs.specs.Least.{Padded}
use Rattle.message.specs.Message.{Packet, is_unit, address_good}
use Rattle.rules.specs.declared.Unit.{Unit as State}
use Rattle.rules.specs.declared.Sending.{Sending}
use Rattle.rules.specs.State.{fresh, empty_unit, in_range}
use Rattle.rules.specs.Step.{Decision, refused, accepted, Written, assign}
use Rattle.rules.specs.Send.{packets}
use Rattle.rules.specs.Units.{unit_at, place_of, step_on}
use Rattle.rules.specs.Laws.Views.{GoodView, unit_range}
use Rattle.rules.specs.Laws.Range.{SizedUnit, range_facts}
use Rattle.rules.specs.Laws.Filled.{best_past}
use Rattle.rules.specs.Laws.Packets.{Sendable}
use Rattle.rules.specs.Laws.Assign.{Whenever, GoodDecision}
use Rattle.rules.specs.Laws.Steps.{respond-kept, fresh_arrays, fresh_in_range, start-kept}

-- ---- one unit put in place of another

pub set_unit : (Q : ℕ → State → Type 0) (us : List State) (k : ℕ) (u : State) → k < length us → Q k u → ((i : ℕ) → i ≢ k → Q i (unit_at us i)) → (i : ℕ) → Q i (unit_at (set us k u) i)
set_unit Q us k u lt q f i = go (eqb i k) refl
  where
    go : (t : Bool) → eqb i k ≡ t → Q i (unit_at (set us k u) i)
    go true e = subst (λ x. Q x (unit_at (set us k u) x)) (sym (eqb-true i k e)) (subst (Q k) (sym (get_or-set_same us k u empty_unit lt)) q)
    go false e = subst (Q i) (sym (get_or-set_other us k i u empty_unit (eqb-false i k e))) (f i (eqb-false i k e))

-- ---- the receiver of a packet that can be written

suc_pred : (m : ℕ) → 1 ≤ m → suc (pred m) ≡ m
suc_pred zero l = absurd (omega arith)
suc_pred (suc m) l = refl

module _ (n : ℕ) (sizes : List ℕ) (p : Packet) (w : Sendable n sizes p) where
  pub receiver_unit : is_unit n p.message.receiver ≡ true
  unfolding address_good
  receiver_unit = and_right (is_unit n p.message.sender) _ w.address

  pub place_in : (place_of p < n) × (p.message.receiver ≡ suc (place_of p))
  place_in =
      let r = unit_range n p.message.receiver receiver_unit in
      let e : suc (place_of p) ≡ p.message.receiver = suc_pred p.message.receiver r.0 in
      (omega (arith, e, r.1), sym e)

-- ---- units in range

pub record AllInRange (order : ValueOrder) (I : Instance) (sizes : List ℕ) (us : List State) : Type 0 where
  pub size : length us ≡ 16
  pub states : (k : ℕ) → k < I.n → in_range sizes (view_by order I k) (unit_at us k) ≡ true
  pub arrays : (k : ℕ) → k < I.n → SizedUnit (unit_at us k)

-- so a unit's best is an array of 16 places, those past n zero
pub best_padded : (order : ValueOrder) (I : Instance) (sizes : List ℕ) (us : List State) → AllInRange order I sizes us → (k : ℕ) → k < I.n → Padded I.n (unit_at us k).best
best_padded order I sizes us r k lt = record { places = (r.arrays k lt).best; zeros = λ i past. go i past (ltb i 16) refl }
  where
    go : (i : ℕ) → I.n ≤ i → (t : Bool) → ltb i 16 ≡ t → get_or (unit_at us k).best i 0 ≡ 0
    go i past true e = best_past I.n sizes (unit_at us k).bound (unit_at us k).best (range_facts sizes (view_by order I k) (unit_at us k) (r.states k lt)).bound i past (ltb-true i 16 e)
    go i past false e = get_or-eq_default (unit_at us k).best 0 (omega (arith, (r.arrays k lt).best, ltb-false i 16 e))

-- what a step of the unit at place k leaves: all in range, and at most 16 packets that can be written
pub record Leaves (order : ValueOrder) (I : Instance) (sizes : List ℕ) (us : List State) (k : ℕ) (u : State) (s : Sending) (ws : List Written) : Type 0 where
  pub units : AllInRange order I sizes (set us k u)
  pub sent : Every (Sendable I.n sizes) (packets I.n k s)
  pub few : length (packets I.n k s) ≤ 16

module _ (order : ValueOrder) (I : Instance) (sizes : List ℕ) (n16 : I.n ≤ 16) (views : (k : ℕ) → k < I.n → GoodView I.n sizes (view_by order I k)) where
  leaves : (us : List State) → AllInRange order I sizes us → (k : ℕ) → k < I.n → (o : Decision) → Whenever (GoodDecision I.n sizes (view_by order I k) 16) o → Whenever (Leaves order I sizes us k) o
  leaves us r k lt (refused x) h = tt
  leaves us r k lt (accepted u s ws) h =
      record {
        units = record {
          size = length-set us k u ∙ r.size;
          states = λ i l. set_unit (λ j x. j < I.n → in_range sizes (view_by order I j) x ≡ true) us k u (omega (arith, lt, n16, r.size)) (λ z. h.state) (λ j ne. r.states j) i l;
          arrays = λ i l. set_unit (λ j x. j < I.n → SizedUnit x) us k u (omega (arith, lt, n16, r.size)) (λ z. h.arrays) (λ j ne. r.arrays j) i l;
        };
        sent = h.sent;
        few = h.few;
      }

  -- ---- making

  pub fresh_all : (i : ℕ) → i < I.n → unit_at (replicate 16 fresh) i ≡ fresh
  fresh_all i lt = get_or-replicate 16 i fresh empty_unit (omega (arith, lt, n16))

  fresh_units : AllInRange order I sizes (replicate 16 fresh)
  fresh_units =
      record {
        size = refl;
        states = λ i l. subst (λ x. in_range sizes (view_by order I i) x ≡ true) (sym (fresh_all i l)) (fresh_in_range I.n sizes (view_by order I i) (views i l));
        arrays = λ i l. subst SizedUnit (sym (fresh_all i l)) (fresh_arrays I.n sizes (view_by order I i) (views i l));
      }

  pub start_in_range : 0 < I.n → Whenever (Leaves order I sizes (replicate 16 fresh) 0) (assign (view_by order I 0) fresh)
  start_in_range n1 = leaves (replicate 16 fresh) fresh_units 0 n1 (assign (view_by order I 0) fresh) (start-kept I.n sizes (view_by order I 0) (views 0 n1) 0 refl)

  -- ---- a step

  pub step_in_range : (us : List State) → AllInRange order I sizes us → (p : Packet) → Sendable I.n sizes p → Whenever (Leaves order I sizes us (place_of p)) (step_on order I us p)
  step_in_range us r p w =
      let q = place_in I.n sizes p w in
      leaves us r (place_of p) q.0 (step_on order I us p)
      (respond-kept I.n sizes (view_by order I (place_of p)) (views (place_of p) q.0) p.kind (unit_at us (place_of p)) p.message (r.states (place_of p) q.0) (r.arrays (place_of p) q.0)
      (record { address = w.address; form = w.form; arrays = w.arrays }) q.1)
