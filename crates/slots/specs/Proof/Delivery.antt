-- Each delivery keeps the invariant, whatever its cell, and gives on bytes what it gives over messages (`delivers`): the checks before 12 pass, the cell reads back as the packet that waits there, which
-- is its own, the step is the machine's and is accepted, and the pool is left holding what then waits. By the one walk of runs.
-- In order: packets counted; a delivery refused; a packet at its cell, and its step; the invariant after it; any cell.
-- Assumes nothing.
use Rattle.std.specs.Prelude.{◌≡◌, ℕ, suc, ◌+◌, ◌<◌, Bool, true, false, cond, not, List, [], ◌∷◌, ◌++◌, map, length, slice_set}
use Rattle.std.specs.Prelude.{refl}
use Rattle.std.proofs.Common.{sym, ◌∙◌, subst, inl, inr, append-nil, arith, length-set, length-append, eq-eqb, ne_eqb}
use Rattle.std.proofs.Math.Path.{ap}
use Rattle.std.proofs.lemmas.List.{map-append}
use Rattle.std.proofs.Math.Option.{Option, none, some, some-injective, some-ne-none}
use Rattle.base.specs.Members.{In, Every}
use Rattle.base.specs.Members.Laws.{every_append}
use Rattle.table.specs.Stream.{units_of, Accepted}
use Rattle.costs.specs.declared.ValueOrder.{ValueOrder}
use Rattle.costs.specs.Instance.{instance_of}
use Rattle.costs.specs.Laws.Tried.{problem_by}
use Rattle.costs.specs.Laws.Stream.{sound_of}
use Rattle.costs.specs.Gather.{sizes_in}
use Rattle.costs.specs.Gather.Sizes.{accepted-sizes_good}
use Rattle.message.specs.Message.{Packet}
use Rattle.message.specs.RoundTrip.{parse_encode}
use Rattle.rules.specs.declared.Unit.{Unit as UnitState}
use Rattle.rules.specs.declared.Sending.{Sending}
use Rattle.rules.specs.Step as U
use Rattle.rules.specs.Step.{Decision, Written}
use Rattle.rules.specs.Send.{packets, packet_bytes}
use Rattle.rules.specs.Units.{unit_at, place_of, step_on}
use Rattle.rules.specs.Laws.Assign.{Whenever}
use Rattle.rules.specs.Laws.Packets.{Sendable}
use Rattle.rules.specs.Laws.Units.{Leaves, step_in_range}
use Rattle.protocol.specs.Machine as M
use Rattle.protocol.specs.Machine.{Msg, to}
use Rattle.protocol.specs.Tests.{true_not_false}
use Rattle.protocol.specs.Totals.{total, total_append}
use Rattle.protocol.specs.Simulation.Units.{Simulated, StepsTo}
use Rattle.protocol.proofs.Simulation.Table.{laws, views}
use Rattle.protocol.specs.Slots.Run.{KeptSlots}
use Rattle.protocol.proofs.Slots.Run.{slot_sends, slot_allowed, overwritten_not_newer, accept_slots}
use Rattle.runs.specs.Pool.{cell_of}
use Rattle.runs.specs.Run as R
use Rattle.runs.specs.Run.{DeliveryOf, stopped, deliver_in, history_after}
use Rattle.runs.specs.Calls.{core_after, receiver_of, step_from8}
use Rattle.runs.specs.Demand3.{times}
use Rattle.runs.proofs.Steps.Core.{core_passes, receiver_is, step_is, core_steps}
use Rattle.runs.specs.Proof.Follow as F
use Rattle.runs.specs.Proof.Walk.{hand_cases, deliver_cases}
use Rattle.slots.specs.Slot.{used_slots, slot_of}
use Rattle.slots.specs.Run.{Lost, Slots, at_cell, waiting_in, place, overwritten_by, placed, slots, History}
use Rattle.slots.specs.Bytes.{take_out, place_bytes, is_empty}
use Rattle.slots.specs.Calls.{Result, refused_with, lent_refusal, stray_read, is_stray, stored, deliver_of}
use Rattle.slots.specs.Demand3.{Shed, shed_of, delivery, Honest, Fresher}
use Rattle.slots.specs.Checks.{lent_passes, check_stopped, check_empty, check_none, cell_refused, deliver_goes}
use Rattle.slots.specs.Proof.Cells.{at_waits, taken_weighs, place_weighs}
use Rattle.slots.specs.Proof.Messages.{cell_for, all_used, Stand, stand_set, stand_placed}
use Rattle.slots.specs.Proof.Overwriting.{all_may_go, message_at, overwrites}
use Rattle.slots.specs.Proof.Stored.{Stored, taken-stored, placed-stored, none_empty, some_used, some_bytes, some_full}
use Rattle.slots.specs.Proof.Fresh.{all_fresher}
use Rattle.slots.specs.Proof.Invariant.{machine_of, Invariant, machine, same_stop, step-accepted}

-- nothing moves along with bytes and messages
abbrev pub still : Unit {0} → ℕ → Unit {0}
still a c = tt

-- ---- packets counted

pub times-total : (t : Packet → Bool) (l : List Packet) → times t l ≡ total (λ p. cond (t p) 1 0) l
unfolding times
times-total t [] = refl
times-total t (p ∷ l) = omega (arith, times-total t l)

pub times_lost : (t : Packet → Bool) (l : List (Lost Packet)) → times t (map (λ (o : Lost Packet). o.older) l) ≡ total (λ (o : Lost Packet). cond (t o.older) 1 0) l
unfolding times
times_lost t [] = refl
times_lost t (o ∷ l) = omega (arith, times_lost t l)

module _ (order : ValueOrder) (s : List ℕ) (ok : Accepted s) (S : Shed) (H : History) (i : Invariant order s ok S H) (c : ℕ) where
  -- what a delivery gives: over messages d, on bytes r
  abbrev pub Delivers : DeliveryOf Slots → Result → Type 0
  Delivers d r = F.Delivers (delivery order s) (slots (instance_of s).n) order (instance_of s) still Honest (λ S H a. Invariant order s ok S H) S H tt c d r.answer.refusal (shed_of r)

  -- ---- a delivery refused

  refuses : (x : ℕ) → Honest (stopped H) (suc x) → deliver_of order S.core s S.pool c ≡ refused_with S.core S.pool (suc x)
      → Delivers (R.refused_by (suc x)) (deliver_of order S.core s S.pool c)
  refuses x h e =
      subst (Delivers (R.refused_by (suc x))) (sym e)
      (record {
        number = refl;
        honest = h;
        bytes = ap (λ t. map packet_bytes H.handed ++ cond t (cell_of S.pool c ∷ []) []) (ne_eqb (suc x) 0 (λ q. omega (arith, q))) ∙ append-nil (map packet_bytes H.handed);
        next = i;
      })

  passes : lent_refusal order S.core s S.pool ≡ 0
  passes = lent_passes order S.core s S.pool i.room (core_passes order s ok S.core H i.agents i.core)

  stop_is : (unit_at S.core.units 0).stopped ≡ stopped H
  stop_is = ap (λ hs. (unit_at hs 0).stopped) i.core.same

  st_bytes : Stored (instance_of s).n H.waiting.cells S.pool
  st_bytes = record { bytes = i.bytes; room = i.room }

  -- once unit 1 has stopped it is 12
  pub after_stop : stopped H ≡ true → deliver_of order S.core s S.pool c ≡ refused_with S.core S.pool 12
  after_stop st = cell_refused order S.core s S.pool c passes 11 (check_stopped S.core s S.pool c (stop_is ∙ st))

  -- 15 where nothing is
  nothing-there : stopped H ≡ false → at_cell H.waiting.cells c ≡ none → deliver_of order S.core s S.pool c ≡ refused_with S.core S.pool 15
  unfolding instance_of
  nothing-there st e =
      cell_refused order S.core s S.pool c passes 14
      (check_empty S.core s S.pool c (stop_is ∙ st) (none_empty (instance_of s).n (sound_of s ok).n16 H.waiting.cells S.pool i.cells.size st_bytes c e))

  -- ---- the packet p at the cell, and its step

  module _ (st : stopped H ≡ false) (p : Packet) (e : at_cell H.waiting.cells c ≡ some p) where
    found : (m : Msg) × (at_cell i.msgs c ≡ some m) × Stand order (instance_of s) (sizes_in s) c (some p) (some m)
    found = message_at order (instance_of s) (sizes_in s) H.waiting.cells i.msgs i.cells c p e

    abbrev m : Msg
    m = found.0

    w : Sendable (instance_of s).n (sizes_in s) p
    w = found.2.1

    in_pool : In m (waiting_in i.msgs)
    in_pool = at_waits i.msgs c m found.1

    in_use : c < used_slots (instance_of s).n
    in_use = some_used (instance_of s).n (sound_of s ok).n16 H.waiting.cells S.pool i.cells.size st_bytes c p e

    stepped : Simulated order (instance_of s) H.units H.written i.agents (place_of p) (M.step (problem_by order (instance_of s)) (i.agents (to m)) m) (step_on order (instance_of s) H.units p)
    stepped = step-accepted order s ok S H i st p m found.2.0 in_pool

    -- it is in its own cell
    own_cell : is_stray s p.message.receiver (packet_bytes p) c ≡ false
    unfolding is_stray instance_of
    own_cell =
        ap (stray_read (units_of s) c) (parse_encode (units_of s) (sizes_in s) p.kind p.message (accepted-sizes_good s ok) w.address w.form w.arrays)
        ∙ ap not (eq-eqb (slot_of (units_of s) p) c found.2.2)

    handed_over_lem : deliver_of order S.core s S.pool c ≡ stored S.core S.pool c (units_of s) p.message.receiver (step_on order (instance_of s) H.units p)
    unfolding instance_of
    handed_over_lem =
        deliver_goes order S.core s S.pool c passes (check_none S.core s S.pool c (stop_is ∙ st) (some_full (instance_of s).n (sound_of s ok).n16 H.waiting.cells S.pool i.cells.size st_bytes c p e))
        ∙ ap (λ (x : List ℕ). given (receiver_of (units_of s) x) x) (some_bytes (instance_of s).n (sound_of s ok).n16 H.waiting.cells S.pool i.cells.size st_bytes c p e)
        ∙ ap (λ (y : ℕ). given y (packet_bytes p)) (receiver_is order s ok p w)
        ∙ ap (λ (t : Bool). cond t (refused_with S.core S.pool 9) (stored S.core S.pool c (units_of s) p.message.receiver (step_from8 order s S.core.units p.message.receiver (packet_bytes p)))) own_cell
        ∙ ap (stored S.core S.pool c (units_of s) p.message.receiver) (step_is order s ok p w S.core.units ∙ ap (λ hs. step_on order (instance_of s) hs p) i.core.same)
      where
        given : ℕ → List ℕ → Result
        given own x = cond (is_stray s own x c) (refused_with S.core S.pool 9) (stored S.core S.pool c (units_of s) own (step_from8 order s S.core.units own x))

    -- ---- it is accepted, with u, o and ws

    module _ (u : UnitState) (o : Sending) (ws : List Written) (gives : step_on order (instance_of s) H.units p ≡ U.accepted u o ws) where
      abbrev ps : List Packet
      ps = packets (instance_of s).n (place_of p) o

      x : StepsTo order (instance_of s) H.units H.written i.agents (place_of p) (M.step (problem_by order (instance_of s)) (i.agents (to m)) m) u o ws
      x = subst (Simulated order (instance_of s) H.units H.written i.agents (place_of p) (M.step (problem_by order (instance_of s)) (i.agents (to m)) m)) gives stepped

      l : Leaves order (instance_of s) (sizes_in s) H.units (place_of p) u o ws
      l =
          subst (Whenever (Leaves order (instance_of s) (sizes_in s) H.units (place_of p))) gives
          (step_in_range order (instance_of s) (sizes_in s) (sound_of s ok).n16 (views order s ok) H.units i.core.units p w)

      abbrev after : Slots
      after = placed (instance_of s).n ((slots (instance_of s).n).without H.waiting c) ps

      abbrev left : Result
      left = record { answer = record { refusal = 0; core = core_after S.core p.message.receiver u (length ws) }; pool = place_bytes (instance_of s).n (take_out S.pool c) ps }

      bytes_are : deliver_of order S.core s S.pool c ≡ left
      unfolding instance_of
      bytes_are = handed_over_lem ∙ ap (stored S.core S.pool c (units_of s) p.message.receiver) gives

      abbrev next_msgs : List (Option Msg)
      next_msgs = place (cell_for (instance_of s).n) (slice_set i.msgs c none) x.sent

      kept : KeptSlots (problem_by order (instance_of s)) (machine_of (M.put i.agents (to m) x.agent) next_msgs (length (H.handed ++ (p ∷ []))))
      kept =
          let one_more : suc (length H.handed) ≡ length (H.handed ++ (p ∷ [])) = omega (arith, length-append H.handed (p ∷ [])) in
          let apart = (slot_sends (problem_by order (instance_of s)) (laws order s ok) (sound_of s ok).n1 (machine order s ok S H i) i.kept m in_pool x.agent x.sent x.steps).1 in
          subst (λ k. KeptSlots (problem_by order (instance_of s)) (machine_of (M.put i.agents (to m) x.agent) next_msgs k)) one_more
          (accept_slots (problem_by order (instance_of s)) (laws order s ok) (sound_of s ok).n1 (machine order s ok S H i) i.kept m in_pool x.agent x.sent x.steps (sym (same_stop order s ok S H i) ∙ st) (waiting_in next_msgs)
          (overwrites order (instance_of s) (sizes_in s) H.waiting.cells i.msgs i.cells c m found.1 in_use x.sent (all_may_go order (instance_of s) (sizes_in s) ps x.sent x.reads l.sent) apart))

      fits : Every (λ q. slot_of (instance_of s).n q < used_slots (instance_of s).n) ps
      fits = all_used (instance_of s).n (sizes_in s) ps l.sent

      rest_size : length (slice_set H.waiting.cells c none) ≡ used_slots (instance_of s).n
      rest_size = length-set H.waiting.cells c none ∙ i.cells.size

      after_stored : Stored (instance_of s).n after.cells left.pool
      after_stored =
          placed-stored (instance_of s).n (sound_of s ok).n16 (sizes_in s) ps l.sent fits (slice_set H.waiting.cells c none) (take_out S.pool c) rest_size
          (taken-stored (instance_of s).n (sound_of s ok).n16 H.waiting.cells S.pool i.cells.size st_bytes c in_use)

      still_balanced : (t : Packet → Bool) → times t (H.handed ++ (p ∷ [])) + times t (waiting_in after.cells) + times t (map (λ (o : Lost Packet). o.older) after.overwritten) ≡ times t (H.sent ++ ps)
      still_balanced t =
          let f : Packet → ℕ = λ q. cond (t q) 1 0 in
          omega (
            arith,
            i.balanced t,
            times-total t H.handed,
            times-total t (waiting_in H.waiting.cells),
            times_lost t H.waiting.overwritten,
            times-total t H.sent,
            times-total t (H.handed ++ (p ∷ [])),
            times-total t (waiting_in after.cells),
            times_lost t after.overwritten,
            times-total t (H.sent ++ ps),
            total_append f H.handed (p ∷ []),
            total_append f H.sent ps,
            total_append (λ (o : Lost Packet). f o.older) H.waiting.overwritten (overwritten_by (slot_of (instance_of s).n) (slice_set H.waiting.cells c none) ps),
            place_weighs (slot_of (instance_of s).n) (used_slots (instance_of s).n) f ps (slice_set H.waiting.cells c none) rest_size fits,
            taken_weighs f H.waiting.cells c p (subst (λ k. c < k) (sym i.cells.size) in_use) e,
          )

      now_fresher : Every (Fresher (instance_of s).n (sizes_in s)) (overwritten_by (slot_of (instance_of s).n) (slice_set H.waiting.cells c none) ps)
      unfolding instance_of
      now_fresher =
          all_fresher order (instance_of s) (sizes_in s) (sound_of s ok).n16 (accepted-sizes_good s ok) H.waiting.cells i.msgs i.cells c in_use ps x.sent x.reads l.sent
          (slot_sends (problem_by order (instance_of s)) (laws order s ok) (sound_of s ok).n1 (machine order s ok S H i) i.kept m in_pool x.agent x.sent x.steps).1
          (slot_allowed (problem_by order (instance_of s)) (machine order s ok S H i) i.kept)
          (overwritten_not_newer (problem_by order (instance_of s)) (laws order s ok) (sound_of s ok).n1 (machine order s ok S H i) i.kept m in_pool x.agent x.sent x.steps)

      invariant : Invariant order s ok (shed_of left) (history_after H p u ps ws after)
      invariant =
          record {
            agents = M.put i.agents (to m) x.agent;
            msgs = next_msgs;
            kept = kept;
            core = core_steps order s ok S.core H i.agents i.core p m found.2.0 (M.step (problem_by order (instance_of s)) (i.agents (to m)) m) u o ws x l kept.kept.network.safe after;
            cells =
                stand_placed order (instance_of s) (sizes_in s) ps x.sent (slice_set H.waiting.cells c none) (slice_set i.msgs c none) x.reads l.sent
                (stand_set order (instance_of s) (sizes_in s) H.waiting.cells i.msgs i.cells c in_use none none tt);
            bytes = after_stored.bytes;
            room = after_stored.room;
            balanced = still_balanced;
            fresher = every_append _ H.waiting.overwritten (overwritten_by (slot_of (instance_of s).n) (slice_set H.waiting.cells c none) ps) i.fresher now_fresher;
          }

      goes : Delivers (R.delivered (history_after H p u ps ws after)) (deliver_of order S.core s S.pool c)
      goes =
          subst (Delivers (R.delivered (history_after H p u ps ws after))) (sym bytes_are)
          (record {
            number = refl;
            honest = tt;
            bytes = ap (λ y. map packet_bytes H.handed ++ (y ∷ [])) (some_bytes (instance_of s).n (sound_of s ok).n16 H.waiting.cells S.pool i.cells.size st_bytes c p e) ∙ sym (map-append packet_bytes H.handed (p ∷ []));
            next = invariant;
          })

  -- ---- a message that waits is accepted

  pub waiting_accepted : stopped H ≡ false → (p : Packet) → at_cell H.waiting.cells c ≡ some p → (deliver_of order S.core s S.pool c).answer.refusal ≡ 0
  waiting_accepted st p e = go (step_on order (instance_of s) H.units p) refl
    where
      go : (o : Decision) → step_on order (instance_of s) H.units p ≡ o → (deliver_of order S.core s S.pool c).answer.refusal ≡ 0
      go (U.refused r) gives = absurd (subst (Simulated order (instance_of s) H.units H.written i.agents (place_of p) (M.step (problem_by order (instance_of s)) (i.agents (to (found st p e).0)) (found st p e).0)) gives (stepped st p e))
      go (U.accepted u o ws) gives = ap (λ (r : Result). r.answer.refusal) (bytes_are st p e u o ws gives)

  pub not_empty_accepted : stopped H ≡ false → is_empty (instance_of s).n S.pool c ≡ false → (deliver_of order S.core s S.pool c).answer.refusal ≡ 0
  not_empty_accepted st f = go (at_cell H.waiting.cells c) refl
    where
      go : (x : Option Packet) → at_cell H.waiting.cells c ≡ x → (deliver_of order S.core s S.pool c).answer.refusal ≡ 0
      go none e = absurd (true_not_false (none_empty (instance_of s).n (sound_of s ok).n16 H.waiting.cells S.pool i.cells.size st_bytes c e) f)
      go (some p) e = waiting_accepted st p e

  -- ---- any cell

  pub delivers : Delivers (deliver_in (slots (instance_of s).n) order (instance_of s) H c) (deliver_of order S.core s S.pool c)
  delivers =
      deliver_cases order (instance_of s) H (λ d. Delivers d (deliver_of order S.core s S.pool c)) (slots (instance_of s).n) c
      (λ st. refuses 11 (inl (refl, st)) (after_stop st))
      (λ st e. refuses 14 (inr refl) (nothing-there st e))
      (λ st p e.
      hand_cases order (instance_of s) H (λ d. Delivers d (deliver_of order S.core s S.pool c)) p ((slots (instance_of s).n).put ((slots (instance_of s).n).without H.waiting c))
      (λ r gives. absurd (subst (Simulated order (instance_of s) H.units H.written i.agents (place_of p) (M.step (problem_by order (instance_of s)) (i.agents (to (found st p e).0)) (found st p e).0)) gives (stepped st p e)))
      (λ u o ws gives. (
        (λ f. absurd (some-ne-none _ f)),
        (λ v f. subst (λ v. Delivers (R.delivered (history_after H p u (packets (instance_of s).n (place_of p) o) ws v)) (deliver_of order S.core s S.pool c)) (some-injective _ v f) (goes st p e u o ws gives)),
      )))
