-- A pool where a fresh message takes the slot of an older one: what it keeps of a network, by Safety, Liveness, Count and Best, which speak of any pool.
-- What is overwritten was sent by the unit that steps now: so of the chain's CPAs only one that this unit replaces. And the pool only loses weight by it.
--
-- In order: `Overwrites`; what is kept (`KeptSlots`); the same messages in another order; what is sent is held, and making; a message that waits;
-- CPAs and slots; a message that is accepted.
-- Assumes nothing.
use Rattle.std.specs.Prelude.{ℕ, suc, ◌-◌, ◌≤◌, ◌<◌, pred, ◌≡◌, refl, ◌≢◌, ◌⊎◌, false, List, ◌++◌}
use Rattle.std.proofs.Common.{sym, ap, ◌∙◌, subst, inl, inr, arith}
use Rattle.base.specs.Members.{In, Every}
use Rattle.base.specs.Members.Laws.{in_left, in_right, every_nil}
use Rattle.protocol.specs.Problem.{Problem, Laws}
use Rattle.protocol.specs.Machine.{Msg, down, back, request, estimate, solution, stop, to, Agent, fresh, Result, refused, done, counted, assign, step, Network, put, made, make}
use Rattle.protocol.specs.Tests.{true_not_false}
use Rattle.protocol.specs.Totals.{total}
use Rattle.protocol.specs.Safety.Logs.{logs, Recorded}
use Rattle.protocol.proofs.Safety.Network.{safe_fewer}
use Rattle.protocol.specs.Liveness.Chain.{Delivered}
use Rattle.protocol.proofs.Liveness.Chain.{live_mono}
use Rattle.protocol.specs.Liveness.Run.{Chain}
use Rattle.protocol.specs.Count.Weights.{weight}
use Rattle.protocol.proofs.Count.Tally.{stops_fewer}
use Rattle.protocol.specs.Best.Told.{Carries}
use Rattle.protocol.specs.Best.Pairs.{PairStep}
use Rattle.protocol.proofs.Best.Pairs.{pairs_fewer, accept_steps}
use Rattle.protocol.proofs.Best.First.{first_fewer}
use Rattle.protocol.proofs.Theorem.{make-kept, accept_kept}
use Rattle.protocol.specs.Slots.Slot.{kind_of, from, slot_of, Allowed, solution_in, NotNewer}
use Rattle.protocol.specs.Slots.Sends.{Leaves, Sends}
use Rattle.protocol.proofs.Slots.Sends.{try_leaves, step-leaves, allowed}
use Rattle.protocol.specs.Slots.Order.{Timed}
use Rattle.protocol.proofs.Slots.Order.{try_timed, step_timed, behind_stays, timely_behind, not_newer}
use Rattle.protocol.specs.Slots.Run.{cpa_kind, kind_cpa, cpa-sender, Held, KeptSlots, Overwrites}

-- ---- the same messages in another order, or fewer times

pub relisted : (P : Problem) (S : Network) → KeptSlots P S → (new : List Msg) → Every (λ x. In x S.pool) new → Every (λ x. In x new) S.pool
    → ((f : Msg → ℕ) → total f new ≤ total f S.pool) → KeptSlots P (record { units = S.units; pool = new; accepted = S.accepted })
relisted P S k new fewer all weighs =
    record {
      kept = record {
        network = safe_fewer P S new fewer k.kept.network;
        chain = chain k.kept.chain;
        tally = record { balance = omega (arith, k.kept.tally.balance, weighs (weight P)); stops = stops_fewer P S new fewer k.kept.tally.stops };
        pairs = pairs_fewer P S new fewer k.kept.pairs;
        first = first_fewer P S new fewer k.kept.first;
      };
      held = λ x i. k.held x (fewer x i);
    }
  where
    chain : Chain P S → Chain P (record { units = S.units; pool = new; accepted = S.accepted })
    chain (inl e) = inl e
    chain (inr l) = inr (live_mono all l)

-- ---- what is sent is held

sent_held : (n : ℕ) (us : ℕ → Agent) (k t : ℕ) (u : Agent) (ms : List Msg) → Sends n k (done u ms) → Timed k t (done u ms) → Every (Held n (put us k u)) ms
sent_held n us k t u ms sends timed x i =
    let leaves = sends.0 x i in
    record { other = λ e. leaves.1 (e ∙ leaves.0); behind = timely_behind n us k t u x leaves.0 (timed.1 x i) }

module _ (P : Problem) (laws : Laws P) (n1 : 0 < P.n) where
  pub make_sends : Sends P.n 0 (assign P 0 fresh)
  make_sends = try_leaves P 0 (P.size 0 - 0) false (counted fresh) (λ z. absurd (true_not_false z refl))

  pub make-slots : KeptSlots P (make P)
  make-slots =
      record {
        kept = make-kept P laws n1;
        held = held (assign P 0 fresh) make_sends (try_timed P 0 (P.size 0 - 0) false (counted fresh) (omega arith, omega (arith, laws.size_le_16 0)));
      }
    where
      held : (r : Result) → Sends P.n 0 r → Timed 0 0 r → Every (Held P.n (made r).units) (made r).pool
      held refused s t = every_nil _
      held (done u ms) s t = sent_held P.n (λ k. fresh) 0 0 u ms s t

-- ---- a message that waits

pub slot_allowed : (P : Problem) (S : Network) → KeptSlots P S → (m : Msg) → In m S.pool → Allowed P.n (slot_of P.n m)
slot_allowed P S k m i = allowed P (Recorded (logs S.units)) m (k.kept.network.msgs m i) (k.held m i).other

-- a solution is the last unit's and carries its bound; any other message has no such bound
solution_or_not : (n : ℕ) (x : Msg) → ((kind_of x ≡ 4) × (from n x ≡ pred n) × ((l : List ℕ) × Carries x (solution_in x) l)) ⊎ ((kind_of x ≢ 4) × (solution_in x ≡ 0))
solution_or_not n (down k s b B l) = inr ((λ e. absurd (omega (arith, e))), refl)
solution_or_not n (back k s b B l) = inr ((λ e. absurd (omega (arith, e))), refl)
solution_or_not n (request k j s b) = inr ((λ e. absurd (omega (arith, e))), refl)
solution_or_not n (estimate k j s v) = inr ((λ e. absurd (omega (arith, e))), refl)
solution_or_not n (solution k B l) = inl (refl, refl, (l, (refl, refl)))
solution_or_not n (stop k B l) = inr ((λ e. absurd (omega (arith, e))), refl)

-- ---- CPAs and slots

-- a CPA's slot is taken by a CPA of the same sender alone
slots_delivered : (n : ℕ) (us : ℕ → Agent) (pool : List Msg) (m : Msg) (ms new : List Msg) → Overwrites n pool m ms new → Every (Leaves n (to m)) ms
    → Delivered us m ms (λ x. In x pool) (λ x. In x new)
slots_delivered n us pool m ms new o leaves =
    record {
      stay = λ x c ne other w. o.stays x w ne (λ y j e. other (cpa-sender n x c ∙ sym (ap (λ s. s.sender) e) ∙ (leaves y j).0));
      calm = λ none x c ne w. o.stays x w ne (λ y j e. none y j (kind_cpa y (ap (λ s. s.kind) e ∙ cpa_kind x c)));
      sent = λ x c j nw. o.sent x j;
    }

-- ---- a message that is accepted

module _ (P : Problem) (laws : Laws P) (n1 : 0 < P.n) (S : Network) (k : KeptSlots P S) (m : Msg) (i : In m S.pool) (u : Agent) (ms : List Msg)
    (d : step P (S.units (to m)) m ≡ done u ms) where
  pub slot_sends : Sends P.n (to m) (done u ms)
  slot_sends = subst (Sends P.n (to m)) d (step-leaves P (S.units (to m)) (Recorded (logs S.units)) m (k.kept.network.msgs m i))

  timed : Timed (to m) (S.units (to m)).threshold (done u ms)
  timed = subst (Timed (to m) (S.units (to m)).threshold) d (step_timed P laws S.units k.kept.network.safe m (k.kept.network.msgs m i))

  -- m was sent by another unit: so the slot that was emptied stays empty
  pub emptied_stays : Every (λ y. slot_of P.n y ≢ slot_of P.n m) ms
  emptied_stays y j e = (k.held m i).other (sym (slot_sends.0 y j).0 ∙ ap (λ s. s.sender) e)

  -- what is overwritten is never newer. 02: "by stamp, or by lower bound for news"
  pub overwritten_not_newer : (y : Msg) → In y ms → (x : Msg) → In x S.pool → slot_of P.n x ≡ slot_of P.n y → NotNewer x y
  overwritten_not_newer y j x h e = (
    not_newer P.n S.units (to m) u x y e (slot_sends.0 y j).0 (k.held x h).behind (timed.1 y j),
    bounds (solution_or_not P.n x) (solution_or_not P.n y),
  )
    where
      steps : PairStep P S (to m) u ms
      steps = accept_steps P laws S k.kept.network m i u ms d

      Cases : Msg → Type 0
      Cases z = ((kind_of z ≡ 4) × (from P.n z ≡ pred P.n) × ((l : List ℕ) × Carries z (solution_in z) l)) ⊎ ((kind_of z ≢ 4) × (solution_in z ≡ 0))

      bounds : Cases x → Cases y → solution_in y ≤ solution_in x
      bounds cx (inr q) = omega (arith, q.1)
      bounds (inr p) (inl q) = absurd (p.0 (ap (λ s. s.kind) e ∙ q.0))
      -- unit n's bound was the lowest there was, and y carries the one that it has now
      bounds (inl p) (inl q) =
          omega (
            arith,
            k.kept.pairs.last (solution_in x) p.2.0 (inr (x, h, p.2.1)),
            ap (λ z. (S.units z).bound) (sym (slot_sends.0 y j).0 ∙ q.1),
            steps.falls,
            (steps.copies y j (solution_in y) q.2.0 q.2.1).0,
          )

  pub accept_slots : (S.units 0).stopped ≡ false → (new : List Msg) → Overwrites P.n S.pool m ms new
      → KeptSlots P (record { units = put S.units (to m) u; pool = new; accepted = suc S.accepted })
  accept_slots st new o =
      record {
        kept =
            accept_kept P laws n1 S k.kept m i u ms new st d (λ x j. among x (o.only x j)) (o.weighs (weight P))
            (slots_delivered P.n S.units S.pool m ms new o slot_sends.0);
        held = λ x j. held x (o.only x j);
      }
    where
      among : (x : Msg) → In x S.pool ⊎ In x ms → In x (S.pool ++ ms)
      among x (inl j) = in_left ms j
      among x (inr j) = in_right S.pool j

      held : (x : Msg) → In x S.pool ⊎ In x ms → Held P.n (put S.units (to m) u) x
      held x (inl j) = record { other = (k.held x j).other; behind = behind_stays P.n S.units (to m) u timed.0 x (k.held x j).behind }
      held x (inr j) = sent_held P.n S.units (to m) (S.units (to m)).threshold u ms slot_sends timed x j
