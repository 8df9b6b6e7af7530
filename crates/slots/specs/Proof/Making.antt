-- Making gives the invariant (`make_invariant`), for a table that it accepts and a pool that is long enough: unit 1's assigning is never refused, and what it sends waits, each in its own cell.
-- Assumes nothing.
use Rattle.std.specs.Prelude.{◌≡◌, ℕ, zero, suc, ◌<◌, ◌≤◌, cond, List, [], length, replicate}
use Rattle.std.proofs.Math.Path.{refl, ap, subst}
use Rattle.std.proofs.Common.{sym, ◌∙◌}
use Rattle.std.proofs.Math.Option.{none, some-ne-none}
use native.Mathlib.Omega.{arith}
use Rattle.std.proofs.lemmas.List.{length-replicate}
use Rattle.base.specs.Members.{Every}
use Rattle.table.specs.Stream.{units_of, Accepted}
use Rattle.costs.specs.declared.ValueOrder.{ValueOrder}
use Rattle.costs.specs.Instance.{view_by, instance_of}
use Rattle.costs.specs.Laws.Tried.{problem_by}
use Rattle.costs.specs.Laws.Stream.{sound_of}
use Rattle.costs.specs.Gather.{sizes_in}
use Rattle.message.specs.Message.{Packet}
use Rattle.rules.specs.declared.Unit.{Unit as UnitState}
use Rattle.rules.specs.declared.Sending.{Sending}
use Rattle.rules.specs.State.{fresh}
use Rattle.rules.specs.Step as U
use Rattle.rules.specs.Step.{Decision, Written, assign}
use Rattle.rules.specs.Send.{packets}
use Rattle.rules.specs.Calls.{unless_refused}
use Rattle.protocol.specs.Machine as M
use Rattle.protocol.specs.Machine.{Msg}
use Rattle.protocol.specs.Totals.{total}
use Rattle.protocol.proofs.Simulation.Table.{laws}
use Rattle.protocol.specs.Slots.Slot.{Apart}
use Rattle.protocol.specs.Slots.Sends.{Sends}
use Rattle.protocol.specs.Slots.Run.{KeptSlots}
use Rattle.protocol.proofs.Slots.Run.{make_sends, make-slots, relisted}
use Rattle.runs.specs.Run as R
use Rattle.runs.specs.Demand3.{times}
use Rattle.runs.proofs.Steps.Core.{Begun, unit-made, core_starts}
use Rattle.slots.specs.Slot.{slot_pool_size, used_slots, slot_of}
use Rattle.slots.specs.Run.{waiting_in, place, overwritten_by, slots, begin}
use Rattle.slots.specs.Bytes.{place_bytes, zero_cells}
use Rattle.slots.specs.Calls as C
use Rattle.slots.specs.Calls.{make_of}
use Rattle.slots.specs.Demand3.{shed_of, shed_made, Made, Fresher}
use Rattle.runs.specs.Calls.{making_refusal}
use Rattle.runs.proofs.CodeLaws.{makeable}
use Rattle.slots.specs.Proof.Cells.{none_at, none_wait, place_weighs, overwritten_from}
use Rattle.slots.specs.Proof.Messages.{MayGo, all_used, AllStand, stand_placed}
use Rattle.slots.specs.Proof.Fresh.{packets_spread}
use Rattle.slots.specs.Proof.Overwriting.{apart_spread, all_may_go, first_cells, first_all, first_weighs, first_only}
use Rattle.slots.specs.Proof.Stored.{Stored, placed-stored, zeroed-stored}
use Rattle.slots.specs.Proof.Invariant.{machine_of, Invariant}
use Rattle.slots.specs.Proof.Delivery.{times-total, times_lost}

-- none was handed over by making
pub none_handed : (order : ValueOrder) (s : List ℕ) → (begin order (instance_of s)).handed ≡ []
unfolding begin
none_handed order s = go (assign (view_by order (instance_of s) 0) fresh)
  where
    go : (o : Decision) → (R.begun_with (slots (instance_of s).n) (instance_of s) o).handed ≡ []
    go (U.refused r) = refl
    go (U.accepted u o ws) = refl

module _ (order : ValueOrder) (s pool : List ℕ) (made : Made order s pool) where
  no_refusal : making_refusal slot_pool_size s (length pool) ≡ 0
  unfolding make_of
  no_refusal = go (making_refusal slot_pool_size s (length pool)) made
    where
      go : (r : ℕ) → (C.made (units_of s) pool (unless_refused r (assign (view_by order (instance_of s) 0) fresh))).answer.refusal ≡ 0 → r ≡ 0
      go zero e = refl
      go (suc r) e = absurd (omega arith)

  pub accepted-table : Accepted s
  accepted-table = (makeable slot_pool_size s (length pool) no_refusal).0

  room : slot_pool_size ≤ length pool
  room = (makeable slot_pool_size s (length pool) no_refusal).1

  module _ (u : UnitState) (o : Sending) (ws : List Written) (b : Begun order s accepted-table u o ws) where
    abbrev n : ℕ
    n = (instance_of s).n

    abbrev ps : List Packet
    ps = packets (instance_of s).n 0 o

    abbrev ms : List Msg
    ms = b.steps.sent

    go_all : Every (MayGo n) ms
    go_all = all_may_go order (instance_of s) (sizes_in s) ps ms b.steps.reads b.leaves.sent

    apart : Apart n ms
    apart = (subst (Sends n 0) b.steps.steps (make_sends (problem_by order (instance_of s)) (laws order s accepted-table) (sound_of s accepted-table).n1)).1

    kept : KeptSlots (problem_by order (instance_of s)) (machine_of (M.put (λ k. M.fresh) 0 b.steps.agent) (first_cells n ms go_all apart) 0)
    kept =
        relisted (problem_by order (instance_of s)) (M.made (M.done b.steps.agent ms))
        (subst (λ r. KeptSlots (problem_by order (instance_of s)) (M.made r)) b.steps.steps (make-slots (problem_by order (instance_of s)) (laws order s accepted-table) (sound_of s accepted-table).n1))
        (waiting_in (first_cells n ms go_all apart)) (first_only n ms go_all apart) (first_all n ms go_all apart) (first_weighs n ms go_all apart)

    fits : Every (λ p. slot_of n p < used_slots n) ps
    fits = all_used n (sizes_in s) ps b.leaves.sent

    no_cells : AllStand order (instance_of s) (sizes_in s) (replicate (used_slots n) none) (replicate (used_slots n) none)
    no_cells =
        record {
          size = length-replicate (used_slots n) none;
          as_many = length-replicate (used_slots n) none;
          stand = λ d. rw (none_at {A = Packet} (used_slots n) d, none_at {A = Msg} (used_slots n) d) tt;
        }

    stored : Stored n (place (slot_of n) (replicate (used_slots n) none) ps) (place_bytes n (zero_cells n pool) ps)
    stored = placed-stored n (sound_of s accepted-table).n16 (sizes_in s) ps b.leaves.sent fits (replicate (used_slots n) none) (zero_cells n pool) (length-replicate (used_slots n) none) (zeroed-stored n (sound_of s accepted-table).n16 pool room)

    -- nothing is overwritten
    none_lost : Every (Fresher n (sizes_in s)) (overwritten_by (slot_of n) (replicate (used_slots n) none) ps)
    none_lost o i =
        let spread = packets_spread order (instance_of s) (sizes_in s) (used_slots n) ps ms b.steps.reads b.leaves.sent (apart_spread n (used_slots n) ms go_all apart) in
        absurd (some-ne-none o.older (sym (overwritten_from (slot_of n) (used_slots n) ps (replicate (used_slots n) none) spread o i).1 ∙ none_at {A = Packet} (used_slots n) (slot_of n o.fresh)))

    starts : Invariant order s accepted-table (shed_of (C.made (units_of s) pool (U.accepted u o ws))) (R.begun_with (slots n) (instance_of s) (U.accepted u o ws))
    unfolding instance_of times
    starts =
        record {
          agents = M.put (λ k. M.fresh) 0 b.steps.agent;
          msgs = first_cells n ms go_all apart;
          kept = kept;
          core = core_starts order s accepted-table (slots n) u o ws b kept.kept.network.safe;
          cells = stand_placed order (instance_of s) (sizes_in s) ps ms (replicate (used_slots n) none) (replicate (used_slots n) none) b.steps.reads b.leaves.sent no_cells;
          bytes = stored.bytes;
          room = stored.room;
          balanced = λ t.
              let f : Packet → ℕ = λ q. cond (t q) 1 0 in
              omega (
                arith,
                times-total t (waiting_in (place (slot_of n) (replicate (used_slots n) none) ps)),
                times_lost t (overwritten_by (slot_of n) (replicate (used_slots n) none) ps),
                times-total t ps,
                place_weighs (slot_of n) (used_slots n) f ps (replicate (used_slots n) none) (length-replicate (used_slots n) none) fits,
                ap (total f) (none_wait {A = Packet} (used_slots n)),
              );
          fresher = none_lost;
        }

  pub make_invariant : Invariant order s accepted-table (shed_made order s pool) (begin order (instance_of s))
  unfolding make_of begin
  make_invariant =
      subst (λ r. Invariant order s accepted-table (shed_of (C.made (units_of s) pool (unless_refused r (assign (view_by order (instance_of s) 0) fresh)))) (R.begun_with (slots (instance_of s).n) (instance_of s) (assign (view_by order (instance_of s) 0) fresh))) (sym no_refusal)
      (unit-made order s accepted-table (λ o. Invariant order s accepted-table (shed_of (C.made (units_of s) pool o)) (R.begun_with (slots (instance_of s).n) (instance_of s) o)) starts)
