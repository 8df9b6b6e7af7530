-- What the steps of the calls for C come to: reading, a step on a lent state, a delivery or an echo to what is lent. Assumes nothing.
use Rattle.std.specs.Prelude.{ℕ, pred, ◌≡◌, List, length, Err}
use Rattle.std.proofs.Common.{ap, ◌∙◌}
use Rattle.base.specs.declared.Refusal.{Refusal}
use Rattle.message.specs.Message.{no_message}
use Rattle.message.specs.Decode.{parse_for}
use Rattle.costs.specs.declared.ValueOrder.{ValueOrder}
use Rattle.rules.specs.declared.Outcome.{Outcome}
use Rattle.rules.specs.declared.Unit.{Unit}
use Rattle.rules.specs.Calls.{outcome_of, bytes_of, step_out}
use Rattle.runs.specs.declared.Core.{Core}
use Rattle.runs.specs.declared.Network.{Network}
use Rattle.runs.specs.declared.Answer.{Answer}
use Rattle.runs.specs.Calls.{deliver_of, echo_of}
use Rattle.slots.specs.declared.Answer.{Answer as SlotsAnswer}
use Rattle.slots.specs.Calls.{deliver_of as slotsDeliverOf}
use Rattle.slots.specs.Replay.{replay_of}
use Rattle.cabi.specs.declared.LentAnswer.{LentAnswer}
use Rattle.cabi.specs.declared.LentCore.{LentCore}
use Rattle.cabi.specs.declared.LentNetwork.{LentNetwork}
use Rattle.cabi.specs.declared.LentOutcome.{LentOutcome}
use Rattle.cabi.specs.declared.LentSlotsAnswer.{LentSlotsAnswer}
use Rattle.cabi.specs.declared.LentUnit.{LentUnit}
use Rattle.cabi.specs.Lent.{unit_from, outcome_back, core_from, network_from, answer_back, slots_back}
use Rattle.cabi.specs.Calls.{parsed_of, step_of, stepped_bytes, delivered_to, delivered_pool, echoed_to, echoed_pool, slots_delivered_to, slots_delivered_pool, replayed_to, replayed_pool}

-- where reading refuses, every field beside the number is zero
pub refused-blank : (n : ℕ) (sizes : List ℕ) (own : ℕ) (s : List ℕ) (r : Refusal) → parse_for n sizes own s ≡ Err r
    → ((parsed_of (parse_for n sizes own s)).message ≡ no_message) × ((parsed_of (parse_for n sizes own s)).kind ≡ 0)
refused-blank n sizes own s r e = (ap (λ p. (parsed_of p).message) e, ap (λ p. (parsed_of p).kind) e)

-- a step: what the call does, one thing after the other
module _ (order : ValueOrder) (s : LentUnit) (own n : ℕ) (sizes costs packet : List ℕ) (v : Unit) (read : v ≡ unit_from s) where
  pub step_is : (room : ℕ) (r : Outcome) (x : LentOutcome) → r ≡ outcome_of n (pred own) v (step_out order v own n sizes costs packet room) → x ≡ outcome_back s r → x ≡ step_of order s own n sizes costs packet room
  unfolding step_of
  step_is room r x e f = f ∙ rw (e, read)

  pub stepped_is : (out l : List ℕ) → l ≡ bytes_of n (pred own) out (step_out order v own n sizes costs packet (length out)) → l ≡ stepped_bytes order s own n sizes costs packet out
  unfolding stepped_bytes
  stepped_is out l e = e ∙ rw read

-- a call on what is lent, by what it does with what is read of it
call_is : {L T A X : Type 0} (from : L → T) (back : L → A → X) (answer : T → A) (pool : T → List ℕ) (s : L) (t : T) (a : A) (x : X) (l : List ℕ)
    → t ≡ from s → x ≡ back s a → (a ≡ answer t) × (l ≡ pool t) → (x ≡ back s (answer (from s))) × (l ≡ pool (from s))
call_is from back answer pool s t a x l read given e = (given ∙ ap (back s) (e.0 ∙ ap answer read), e.1 ∙ ap pool read)

-- of a network
module _ (s : LentNetwork) (t : Network) (a : Answer) (x : LentAnswer) (l : List ℕ) (read : t ≡ network_from s) (given : x ≡ answer_back s a) (order : ValueOrder) (stream pool : List ℕ) where
  pub delivery_is : (cell : ℕ) → (a ≡ (deliver_of order t stream pool cell).answer) × (l ≡ (deliver_of order t stream pool cell).pool) → (x ≡ delivered_to order s stream pool cell) × (l ≡ delivered_pool order s stream pool cell)
  unfolding delivered_to delivered_pool
  delivery_is cell e = call_is network_from answer_back (λ t. (deliver_of order t stream pool cell).answer) (λ t. (deliver_of order t stream pool cell).pool) s t a x l read given e

  pub echo_is : (packet : List ℕ) → (a ≡ (echo_of order t stream pool packet).answer) × (l ≡ (echo_of order t stream pool packet).pool) → (x ≡ echoed_to order s stream pool packet) × (l ≡ echoed_pool order s stream pool packet)
  unfolding echoed_to echoed_pool
  echo_is packet e = call_is network_from answer_back (λ t. (echo_of order t stream pool packet).answer) (λ t. (echo_of order t stream pool packet).pool) s t a x l read given e

-- of units and counts over 02's pool
module _ (s : LentCore) (t : Core) (a : SlotsAnswer) (x : LentSlotsAnswer) (l : List ℕ) (read : t ≡ core_from s) (given : x ≡ slots_back s a) (order : ValueOrder) (stream pool : List ℕ) where
  pub slots-delivery_is : (cell : ℕ) → (a ≡ (slotsDeliverOf order t stream pool cell).answer) × (l ≡ (slotsDeliverOf order t stream pool cell).pool) → (x ≡ slots_delivered_to order s stream pool cell) × (l ≡ slots_delivered_pool order s stream pool cell)
  unfolding slots_delivered_to slots_delivered_pool
  slots-delivery_is cell e = call_is core_from slots_back (λ t. (slotsDeliverOf order t stream pool cell).answer) (λ t. (slotsDeliverOf order t stream pool cell).pool) s t a x l read given e

  pub replay_is : (list : List ℕ) → (a ≡ (replay_of order t stream pool list).answer) × (l ≡ (replay_of order t stream pool list).pool) → (x ≡ replayed_to order s stream pool list) × (l ≡ replayed_pool order s stream pool list)
  unfolding replayed_to replayed_pool
  replay_is list e = call_is core_from slots_back (λ t. (replay_of order t stream pool list).answer) (λ t. (replay_of order t stream pool list).pool) s t a x l read given e
