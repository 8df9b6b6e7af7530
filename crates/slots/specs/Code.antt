-- How the pieces of the code make up making and a delivery over this pool, in the order of their code: the checks, the step, and what is placed.
--     make-.., makeable, first-..                making
--     lent-.., cell_stops, Open, opened          the checks before a delivery (they are in Checks): a refusal, and what they have passed
--     stray-..                                   a message that stands in a cell not its own
--     hand-..                                    the message at a cell goes to its unit
-- The units and counts, the step and its limits are those of runs/specs/Code. Assumes nothing.
use Rattle.std.specs.Prelude.{◌≡◌, ℕ, zero, suc, pred, ◌-◌, ◌*◌, ◌<◌, ◌≤◌, true, false, cond, not, List, [], length, take, ◌==◌, ◌≢◌, nat_lt, Ok, Err}
use Rattle.std.specs.Prelude.{refl}
use Rattle.std.proofs.Common.{sym, ◌∙◌, subst, arith}
use Rattle.std.proofs.Math.Path.{ap}
use Rattle.std.proofs.Math.Option.{none}
use Rattle.std.proofs.lemmas.List.{length-replicate}
use borrow.Author.Tests.{ltb-false}
use Rattle.base.specs.declared.Refusal.{Refusal}
use Rattle.base.specs.Refusal.Laws.{or_left, or_right}
use Rattle.base.specs.Limits.{sending_size, message_size}
use Rattle.base.specs.Bytes.Laws.{AllBytes}
use Rattle.table.specs.Stream.{units_of, Accepted}
use Rattle.table.specs.StreamLaws.{accepted_units}
use Rattle.costs.specs.declared.ValueOrder.{ValueOrder}
use Rattle.costs.specs.Instance.{view_by, instance_of, lent_view}
use Rattle.costs.specs.Gather.{sizes_in}
use Rattle.costs.specs.Gather.Sizes.{length_sizes, accepted-sizes-first}
use Rattle.costs.specs.Gather.Laws.{gathered-view}
use Rattle.message.specs.declared.Kind.{Kind}
use Rattle.message.specs.declared.Message.{Message}
use Rattle.message.specs.Decode.{parse_for}
use Rattle.rules.specs.declared.Unit.{Unit as UnitState}
use Rattle.rules.specs.declared.Outcome.{Outcome}
use Rattle.rules.specs.State.{no_unit, fresh, in_range}
use Rattle.rules.specs.Step as U
use Rattle.rules.specs.declared.Sending.{Sending}
use Rattle.rules.specs.Step.{Decision, Written, assign}
use Rattle.rules.specs.Send.{packets, laid}
use Rattle.rules.specs.Units.{unit_at}
use Rattle.rules.specs.Calls.{outcome_of, bytes_of}
use Rattle.rules.specs.Laws.Range.{SizedUnit}
use Rattle.rules.specs.Laws.Assign.{Whenever, GoodDecision}
use Rattle.rules.specs.Laws.Refusals.{Numbered, Accepts, assign_accepts}
use Rattle.rules.specs.Laws.Calls.{make-kept}
use Rattle.runs.specs.declared.Core.{Core}
use Rattle.runs.specs.Pool.{cell_of}
use Rattle.runs.specs.Pool.Laws.{sent_front}
use Rattle.runs.specs.Pool.Stored.{encode_all_length}
use Rattle.runs.specs.Calls.{no_core, making_refusal, core_begun, core_after, receiver_of, lent_of, step_lent, first_lent, step_from8}
use Rattle.runs.specs.Code.{SoundCore, Stepped}
use Rattle.runs.proofs.CodeLaws.{if_so, few_sent, step_numbered, sound_core, sound_passes, sound_after, lent_is, first_step, own_is, own_first, own-most, at_place, hand-told, hand_keeps}
use Rattle.slots.specs.Slot.{slot_pool_size, used_slots, slot_or_none}
use Rattle.slots.specs.Bytes.{slot_bytes, take_out, place_bytes, zero_cells}
use Rattle.slots.specs.Bytes.Laws.{length_put, length_zeroed}
use Rattle.slots.specs.Checks.{lent_passes, lent-refused, cell_refused}
use Rattle.slots.specs.Slot.Laws.{used_fits, read_allowed}
use Rattle.slots.specs.Calls.{made, make_of, lent_refusal, cell_refusal, is_stray, stored, deliver_by, deliver_of}
use Rattle.slots.specs.Placing.{place_sent, not_empty, sent_placed}

-- ---- what a step sent, placed

-- the packets of a good decision stand in front of the buffer, and go into a pool that is long enough
module _ (s : List ℕ) (ok : Accepted s) (order : ValueOrder) (k : ℕ) where
  placed_by : (u : UnitState) (m : Sending) (ws : List Written) → GoodDecision (units_of s) (sizes_in s) (view_by order (instance_of s) k) 16 u m ws → (before out pool : List ℕ) → out ≡ laid (packets (units_of s) k m) before
      → slot_pool_size ≤ length pool → place_sent (units_of s) pool out 0 (length (packets (units_of s) k m)) ≡ place_bytes (units_of s) pool (packets (units_of s) k m)
  placed_by u m ws g before out pool e room =
      sent_placed (units_of s) (accepted_units s ok).1 (sizes_in s) (packets (units_of s) k m) g.sent pool out room
      (ap (take (message_size * length (packets (units_of s) k m))) e ∙ sent_front (packets (units_of s) k m) before (encode_all_length (packets (units_of s) k m) (λ p i. (g.sent p i).arrays)))

-- ---- making

module _ (order : ValueOrder) (s pool : List ℕ) where
  pub make_refuses : (r : ℕ) → r ≡ making_refusal slot_pool_size s (length pool) → (r ≢ 0) → (record { refusal = r; core = no_core } ≡ (make_of order s pool).answer) × (pool ≡ (make_of order s pool).pool)
  unfolding make_of
  make_refuses zero e z = absurd (z refl)
  make_refuses (suc r) e z = rw (← e) (refl, refl)

-- unit 1, with the costs that it is lent, assigns
module _ (order : ValueOrder) (s : List ℕ) (ok : Accepted s) where
  abbrev pub first : Decision
  first = assign (view_by order (instance_of s) 0) fresh

  first_is : (room : ℕ) → sending_size ≤ room → first_lent order s room ≡ first
  first_is room fits = first_step order s [] ok room fits

  first_keeps : Whenever (GoodDecision (units_of s) (sizes_in s) (view_by order (instance_of s) 0) 16) first
  first_keeps =
      let most : units_of s ≤ length (sizes_in s) = omega (arith, length_sizes s, (accepted_units s ok).1) in
      let seen : lent_view order 1 (units_of s) (sizes_in s) (lent_of s 1) ≡ view_by order (instance_of s) 0 =
      rw (lent_is s ok 1 (omega arith) (accepted_units s ok).0) (gathered-view order s ok 1 (omega arith) (accepted_units s ok).0 (sizes_in s) (accepted-sizes-first s ok)) in
      subst (λ (o : Decision). Whenever (GoodDecision (units_of s) (sizes_in s) (view_by order (instance_of s) 0) 16) o) (first_is sending_size (omega arith))
      (rw seen at (make-kept order 1 (units_of s) (sizes_in s) (lent_of s 1) sending_size most))

  module _ (before out : List ℕ) (fits : sending_size ≤ length before) (r : Outcome) (told : r ≡ outcome_of (units_of s) 0 no_unit (first_lent order s (length before)))
      (sent : out ≡ bytes_of (units_of s) 0 before (first_lent order s (length before))) where
    told-first : r ≡ outcome_of (units_of s) 0 no_unit first
    told-first = told ∙ ap (λ (o : Decision). outcome_of (units_of s) 0 no_unit o) (first_is (length before) fits)

    pub first_sent : r.sent ≤ 16
    first_sent = few_sent order s 1 no_unit first r told-first first_keeps

    pub make_begins : (pool : List ℕ) → making_refusal slot_pool_size s (length pool) ≡ 0 → slot_pool_size ≤ length pool
        → (record { refusal = 0; core = core_begun r.unit r.records } ≡ (make_of order s pool).answer) × (place_sent (units_of s) (zero_cells (units_of s) pool) out 0 r.sent ≡ (make_of order s pool).pool)
    unfolding make_of
    make_begins pool z room =
        rw z (go first (assign_accepts (view_by order (instance_of s) 0) fresh) first_keeps told-first (sent ∙ ap (λ (o : Decision). bytes_of (units_of s) 0 before o) (first_is (length before) fits)))
      where
        go : (o : Decision) → Accepts o → Whenever (GoodDecision (units_of s) (sizes_in s) (view_by order (instance_of s) 0) 16) o → r ≡ outcome_of (units_of s) 0 no_unit o → out ≡ bytes_of (units_of s) 0 before o
            → (record { refusal = 0; core = core_begun r.unit r.records } ≡ (made (units_of s) pool o).answer) × (place_sent (units_of s) (zero_cells (units_of s) pool) out 0 r.sent ≡ (made (units_of s) pool o).pool)
        go (U.refused x) a g e f = absurd a
        go (U.accepted u m ws) a g e f =
            (rw e, rw e (placed_by s ok order 0 u m ws g before out (zero_cells (units_of s) pool) f (omega (arith, room, length_zeroed (units_of s) pool (omega (arith, room, used_fits (units_of s) (accepted_units s ok).1))))))

-- ---- the checks of a delivery

-- a refusal, and nothing more
module _ (order : ValueOrder) (core : Core) (s pool : List ℕ) (cell : ℕ) where
  abbrev Ends : ℕ → Type 0
  Ends r = (record { refusal = r; core = core } ≡ (deliver_of order core s pool cell).answer) × (pool ≡ (deliver_of order core s pool cell).pool)

  pub lent_stops : (r : ℕ) → r ≡ lent_refusal order core s pool → (r ≢ 0) → Ends r
  lent_stops zero e z = absurd (z refl)
  lent_stops (suc r) e z = rw (lent-refused order core s pool cell r e) (refl, refl)

  pub cell_stops : lent_refusal order core s pool ≡ 0 → (r : ℕ) → r ≡ cell_refusal core s pool cell → (r ≢ 0) → Ends r
  cell_stops passes zero e z = absurd (z refl)
  cell_stops passes (suc r) e z = rw (cell_refused order core s pool cell passes r e) (refl, refl)

-- what they have passed
module _ (order : ValueOrder) (core : Core) (s pool : List ℕ) (passes : lent_refusal order core s pool ≡ 0) where
  pub lent_room : slot_pool_size ≤ length pool
  unfolding lent_refusal
  lent_room = ltb-false (length pool) slot_pool_size (if_so _ 12 (or_left (cond (nat_lt (length pool) slot_pool_size) 13 0) _ passes))

  pub lent_sound : SoundCore order core s
  unfolding lent_refusal
  lent_sound = sound_core order core s (or_right (cond (nat_lt (length pool) slot_pool_size) 13 0) _ passes)

pub record Open (order : ValueOrder) (core : Core) (s pool : List ℕ) (cell : ℕ) : Type 0 where
  pub room : slot_pool_size ≤ length pool
  pub sound : SoundCore order core s
  pub here : cell < used_slots (units_of s)

pub opened : (order : ValueOrder) (core : Core) (s pool : List ℕ) (cell : ℕ) → lent_refusal order core s pool ≡ 0 → cell_refusal core s pool cell ≡ 0 → Open order core s pool cell
unfolding cell_refusal
opened order core s pool cell passes a =
    record {
      room = lent_room order core s pool passes;
      sound = lent_sound order core s pool passes;
      here = not_empty (units_of s) pool cell (if_so _ 14 (or_right (cond (unit_at core.units 0).stopped 12 0) _ a));
    }

-- all as lent, it would pass again
pub open_passes : (order : ValueOrder) (core : Core) (s pool : List ℕ) (cell : ℕ) → Open order core s pool cell → lent_refusal order core s pool ≡ 0
open_passes order core s pool cell o = lent_passes order core s pool o.room (sound_passes order core s o.sound)

-- ---- a message in a cell not its own

-- by what was read of it, with n as the code has it
module _ (s : List ℕ) (own : ℕ) (bytes : List ℕ) (cell n : ℕ) (units : n ≡ units_of s) where
  pub stray_unread : (r : Refusal) → parse_for n (sizes_in s) own bytes ≡ Err r → false ≡ is_stray s own bytes cell
  unfolding is_stray
  stray_unread r e = rw (← units, e)

  pub stray_read_lem : (k : Kind) (m : Message) → parse_for n (sizes_in s) own bytes ≡ Ok (k, m) → (c : ℕ) → c ≡ slot_or_none n k m.sender m.receiver → not (c == cell) ≡ is_stray s own bytes cell
  unfolding is_stray slot_or_none
  stray_read_lem k m e c is = rw (is, read_allowed n (sizes_in s) own bytes k m e, ← units, e)

-- ---- the message at a cell goes to its unit, once all checks have passed: n, own and the bytes as the code has them

module _ (order : ValueOrder) (core : Core) (s pool : List ℕ) (cell : ℕ) (checks : Open order core s pool cell) (n own : ℕ) (bytes : List ℕ) (units : n ≡ units_of s) (named : own ≡ receiver_of n bytes) (stands : bytes ≡ cell_of pool cell) where
  pub hand_first : 1 ≤ own
  hand_first = own_first order core s checks.sound n own bytes units named

  pub hand-most : own ≤ 16
  hand-most = own-most order core s checks.sound n own bytes units named

  receives : own ≡ receiver_of (units_of s) bytes
  receives = own_is order core s checks.sound n own bytes units named

  pub hand_stray : is_stray s own bytes cell ≡ true → (record { refusal = 9; core = core } ≡ (deliver_by order 0 core s pool cell).answer) × (pool ≡ (deliver_by order 0 core s pool cell).pool)
  hand_stray e = rw (← stands, ← receives, e) (refl, refl)

  -- the step of the unit, as `core` gives it
  module _ (home : is_stray s own bytes cell ≡ false) (u : UnitState) (at : u ≡ unit_at core.units (own - 1)) (before out : List ℕ) (r : Outcome) (fits : sending_size ≤ length before)
      (gives : r ≡ outcome_of (units_of s) (pred own) u (step_lent order s u own bytes (length before))) (sent : out ≡ bytes_of (units_of s) (pred own) before (step_lent order s u own bytes (length before))) where
    abbrev o : Decision
    o = step_from8 order s core.units own bytes

    told : Stepped order s own u bytes before r out
    told = hand-told order core s checks.sound n own bytes units named u at before out r fits gives sent

    outcome : r ≡ outcome_of (units_of s) (pred own) u o
    outcome = told.outcome core.units (at_place order core s checks.sound n own bytes units named u at)

    pub hand_refuses : (r.refusal ≢ 0) → (record { refusal = r.refusal; core = core } ≡ (deliver_by order 0 core s pool cell).answer) × (pool ≡ (deliver_by order 0 core s pool cell).pool)
    hand_refuses z = rw (← stands, ← receives, home) (go o outcome)
      where
        go : (o : Decision) → r ≡ outcome_of (units_of s) (pred own) u o → (record { refusal = r.refusal; core = core } ≡ (stored core pool cell (units_of s) own o).answer) × (pool ≡ (stored core pool cell (units_of s) own o).pool)
        go (U.refused x) e = (rw e, refl)
        go (U.accepted v m ws) e = absurd (z (rw e))

    module _ (arrays : SizedUnit u) (all : AllBytes bytes) where
      keeps : Whenever (GoodDecision (units_of s) (sizes_in s) (view_by order (instance_of s) (pred own)) 16) o
      keeps = hand_keeps order core s checks.sound n own bytes units named u at arrays all

      pub hand_few : r.sent ≤ 16
      hand_few = few_sent order s own u o r outcome keeps

      pub hand_stores : r.refusal ≡ 0 → (record { refusal = 0; core = core_after core own r.unit r.records } ≡ (deliver_by order 0 core s pool cell).answer)
          × (place_sent (units_of s) (take_out pool cell) out 0 r.sent ≡ (deliver_by order 0 core s pool cell).pool)
      hand_stores z = rw (← stands, ← receives, home) (go o outcome (step_numbered order s core.units own bytes) keeps (told.buffer core.units (at_place order core s checks.sound n own bytes units named u at)))
        where
          go : (o : Decision) → r ≡ outcome_of (units_of s) (pred own) u o → Numbered o → Whenever (GoodDecision (units_of s) (sizes_in s) (view_by order (instance_of s) (pred own)) 16) o → out ≡ bytes_of (units_of s) (pred own) before o
              → (record { refusal = 0; core = core_after core own r.unit r.records } ≡ (stored core pool cell (units_of s) own o).answer)
              × (place_sent (units_of s) (take_out pool cell) out 0 r.sent ≡ (stored core pool cell (units_of s) own o).pool)
          go (U.refused x) e number g f = let q : x ≡ 0 = sym (ap (λ (y : Outcome). y.refusal) e) ∙ z in absurd (omega arith)
          go (U.accepted v m ws) e number g f =
              let used = used_fits (units_of s) (accepted_units s checks.sound.table).1 in
              let long = length_put pool cell (slot_bytes none) (length-replicate {A = ℕ} message_size 0) (omega (arith, checks.room, checks.here, used)) in
              (rw e, rw e (placed_by s checks.sound.table order (pred own) v m ws g before out (take_out pool cell) f (omega (arith, checks.room, long))))

      -- what it leaves would pass again
      pub hand_passes : r.refusal ≡ 0 → (left : List ℕ) → length left ≡ length pool → lent_refusal order (core_after core own r.unit r.records) s left ≡ 0
      hand_passes z left same =
          let in-range = go o outcome (step_numbered order s core.units own bytes) keeps in
          lent_passes order (core_after core own r.unit r.records) s left (omega (arith, same, checks.room))
          (sound_passes order (core_after core own r.unit r.records) s (sound_after order core s checks.sound own r.unit r.records in-range))
        where
          go : (o : Decision) → r ≡ outcome_of (units_of s) (pred own) u o → Numbered o → Whenever (GoodDecision (units_of s) (sizes_in s) (view_by order (instance_of s) (pred own)) 16) o
              → in_range (sizes_in s) (view_by order (instance_of s) (pred own)) r.unit ≡ true
          go (U.refused x) e number g = let q : x ≡ 0 = sym (ap (λ (y : Outcome). y.refusal) e) ∙ z in absurd (omega arith)
          go (U.accepted v m ws) e number g = rw e g.state
