-- How the pieces of the code make up a delivery and an echo, in the order of their code: the checks, the step with the gathered costs, and what is stored; and
-- making likewise.
--     unit_in_range, range-of-paid, check-..     the checks, one at a time; `passing` and `opened` say what they have passed
--     gather-within, lent-..                   the costs that a unit is lent, on any stream; on a good one they are those gathered
--     step_is, step_keeps                      the step of `unit` with the gathered costs is the definition's, and keeps its limits
--     stored_answer, stored_pool                 what is stored, in terms of the step's outcome
--     step-refuses, step-stores                a call after its step; hand-.. of a delivery and hear-.. of an echo: by what its code has in hand
--     make-checks, first_step, begins          making
-- Each by the definitions' tests, and by the laws of `costs` and `unit` about gathered costs and steps. Assumes nothing.
use Prim.Native.Nat.{ℕ, zero, suc, pred, ◌+◌, ◌*◌, ◌-◌, ◌≤◌, ◌<◌}
use Rattle.std.specs.Prelude.{◌≡◌, Bool, ltb, leb, eqb, get_or, set}
use Rattle.std.specs.Prelude.{Result as Gathering, Ok, Err}
use Rattle.std.specs.Result.{result_unwrap_or}
use Rattle.std.proofs.Math.Path.{refl, sym, ap}
use Rattle.std.proofs.Common.{◌∙◌, subst, arith}
use Rattle.std.proofs.Math.Bool.{true, false, cond}
use mathlib.Core.List.{List, [], ◌∷◌}
use Rattle.std.proofs.Math.ListN.{length, take, replicate, length-replicate}
use Rattle.std.proofs.Math.Seq.{paste}
use borrow.Author.Tests.{lt-ltb, le-ltb, ltb-false, le-leb, lt-leb, leb-true, leb-false, eqb-true}
use Rattle.base.specs.Refusal.{answered, or_else}
use Rattle.base.specs.Shape.{is_value}
use Rattle.base.specs.Refusal.Laws.{or_left, or_right, or_first}
use Rattle.base.specs.Limits.{pool_cells, pool_size, sending_size, message_size, costs_size}
use Rattle.table.specs.Stream.{units_of, stream_refusal, Accepted}
use Rattle.table.specs.StreamLaws.{accepted_units}
use Rattle.costs.specs.declared.ValueOrder.{ValueOrder}
use Rattle.costs.specs.Instance.{view_of, view_by, instance_of}
use Rattle.costs.specs.Cost.{as_number}
use Rattle.costs.specs.Bounds.{cost_with}
use Rattle.costs.specs.Order.{place_tried}
use Rattle.base.specs.declared.Length.{Length}
use Rattle.base.specs.declared.Refusal.{Refusal}
use Rattle.costs.specs.Gather.{sizes_in, gather_refusal, gather_of, gather_into}
use Rattle.costs.specs.Gathered.{gathered}
use Rattle.costs.specs.Gather.Sizes.{length_sizes, accepted-sizes-first, accepted-sizes_good}
use Rattle.costs.specs.Gather.Laws.{gathered-view, gathered_good, gathered-most, gather_enough, gather_front}
use Rattle.message.specs.Decode.{parse_for}
use Rattle.base.specs.Every.{every}
use Rattle.base.specs.Every.Laws.{every_at, every_by}
use Rattle.message.specs.Message.{Packet, is_unit}
use Rattle.base.specs.Bytes.Laws.{AllBytes}
use Rattle.rules.specs.declared.Unit.{Unit as UnitState}
use Rattle.rules.specs.declared.Outcome.{Outcome}
use Rattle.rules.specs.State.{no_unit, fresh, paid_in_range, in_range}
use Rattle.rules.specs.Step as U
use Rattle.rules.specs.Step.{Decision, assign}
use Rattle.rules.specs.Send.{packets, encode_all}
use Rattle.rules.specs.Units.{unit_at}
use Rattle.rules.specs.Calls as UC
use Rattle.rules.specs.Calls.{outcome_of, bytes_of, step_out, make_out}
use Rattle.rules.specs.Laws.Views.{unit_range}
use Rattle.rules.specs.Laws.Range.{SizedUnit}
use Rattle.rules.specs.Laws.Assign.{Whenever, GoodDecision}
use Rattle.rules.specs.Laws.Refusals.{Numbered, Accepts, assign_accepts, parse_numbered, read_numbered}
use Rattle.rules.specs.Laws.Calls as UL
use Rattle.rules.specs.Laws.Calls.{Passed}
use Rattle.runs.specs.declared.Core.{Core}
use Rattle.runs.specs.declared.Network.{Network}
use Rattle.runs.specs.Pool.{cell_of, pool_after, pool_with}
use Rattle.runs.specs.Pool.Laws.{close_gap, sent_front, pool_stored, pool_added}
use Rattle.runs.specs.Calls.{Result, lent_of, step_lent, first_lent, core_after, core_refusal, no_network, made, making_refusal, make_of, network_refusal, deliver_refusal, receiver_of, step_from8, refused_delivery, network_after, stored, deliver_by, deliver_of, echo_by, echo_of}
use Rattle.runs.specs.Pool.Stored.{encode_all_length}
use Rattle.runs.specs.Code.{Open, Passing, SoundCore, Stepped, Stepping, begun_answer, stored_answer, stored_pool, unit_in_range}

-- by what its own value pays, and its place
pub range_of_paid : (order : ValueOrder) (s : List ℕ) (us : List UnitState) (k : ℕ) (u : UnitState) (v paid place : ℕ) → u ≡ unit_at us k → v ≡ get_or u.values k 0
    → paid ≡ as_number (cost_with (view_of (instance_of s) k) u.values k v) → place ≡ place_tried (view_by order (instance_of s) k) v → paid_in_range (units_of s) (sizes_in s) (suc k) paid place u ≡ unit_in_range order s us k
unfolding in_range instance_of cost_with
range_of_paid order s us k u v paid place unit own pays stands = rw (pays, stands, own, unit)

-- a refusal that was not given says how its test went
pub if_so : (t : Bool) (r : ℕ) → cond t (suc r) 0 ≡ 0 → t ≡ false
if_so true r e = absurd (omega arith)
if_so false r e = refl

if_not : (t : Bool) (r : ℕ) → cond t 0 (suc r) ≡ 0 → t ≡ true
if_not true r e = refl
if_not false r e = absurd (omega arith)

-- a unit put in place of another, where each has what is asked
set_kept : (Q : ℕ → UnitState → Type 0) (us : List UnitState) (k : ℕ) (u : UnitState) → Q k u → ((i : ℕ) → Q i (unit_at us i)) → (i : ℕ) → Q i (unit_at (set us k u) i)
set_kept Q [] k u q f i = f i
set_kept Q (x ∷ us) zero u q f zero = q
set_kept Q (x ∷ us) zero u q f (suc i) = f (suc i)
set_kept Q (x ∷ us) (suc k) u q f zero = f zero
set_kept Q (x ∷ us) (suc k) u q f (suc i) = set_kept (λ j. Q (suc j)) us k u q (λ j. f (suc j)) i

-- of the units and counts
module _ (order : ValueOrder) (core : Core) (s : List ℕ) where
  pub core_table : (r : ℕ) → r ≡ stream_refusal s → (r ≡ 0 → ⊥) → r ≡ core_refusal order core s
  unfolding core_refusal
  core_table r e z = rw (← e, or_first r _ z)

  pub core_states : stream_refusal s ≡ 0 → every (unit_in_range order s core.units) (units_of s) ≡ false → 5 ≡ core_refusal order core s
  unfolding core_refusal
  core_states e f = rw (e, f)

  pub core_good : stream_refusal s ≡ 0 → every (unit_in_range order s core.units) (units_of s) ≡ true → 0 ≡ core_refusal order core s
  unfolding core_refusal
  core_good e f = rw (e, f)

  pub sound_core : core_refusal order core s ≡ 0 → SoundCore order core s
  unfolding core_refusal Accepted
  sound_core a = record {
    table = or_left (stream_refusal s) _ a;
    states = every_at (unit_in_range order s core.units) (units_of s) (if_not _ 4 (or_right (stream_refusal s) _ a));
  }

  pub sound_passes : SoundCore order core s → core_refusal order core s ≡ 0
  unfolding Accepted
  sound_passes a = sym (core_good a.table (every_by (unit_in_range order s core.units) (units_of s) a.states))

  -- and still once a unit has stepped to a state in range
  pub sound_after : SoundCore order core s → (own : ℕ) (u : UnitState) (records : ℕ) → in_range (sizes_in s) (view_by order (instance_of s) (pred own)) u ≡ true → SoundCore order (core_after core own u records) s
  sound_after a own u records e =
      record { table = a.table; states = set_kept (λ k x. k < units_of s → in_range (sizes_in s) (view_by order (instance_of s) k) x ≡ true) core.units (pred own) u (λ l. e) a.states }

-- and of the network
module _ (order : ValueOrder) (net : Network) (s pool : List ℕ) where
  pub check_room : length pool < pool_size → 13 ≡ network_refusal order net s pool
  unfolding network_refusal
  check_room l = rw (lt-ltb (length pool) pool_size l)

  module _ (room : pool_size ≤ length pool) where
    pub check_core : (r : ℕ) → r ≡ core_refusal order net.core s → (r ≡ 0 → ⊥) → r ≡ network_refusal order net s pool
    unfolding network_refusal
    check_core r e z = rw (le-ltb (length pool) pool_size room, ← e, or_first r _ z)

    module _ (core : core_refusal order net.core s ≡ 0) where
      pub check_count : pool_cells < net.used → 5 ≡ network_refusal order net s pool
      unfolding network_refusal
      check_count l = rw (le-ltb (length pool) pool_size room, core, lt-leb net.used pool_cells l)

      module _ (few : net.used ≤ pool_cells) where
        pub check_stopped : (unit_at net.core.units 0).stopped ≡ true → 12 ≡ network_refusal order net s pool
        unfolding network_refusal
        check_stopped e = rw (le-ltb (length pool) pool_size room, core, le-leb net.used pool_cells few, e)

        pub check_running : (unit_at net.core.units 0).stopped ≡ false → 0 ≡ network_refusal order net s pool
        unfolding network_refusal
        check_running e = rw (le-ltb (length pool) pool_size room, core, le-leb net.used pool_cells few, e)

  pub passing : network_refusal order net s pool ≡ 0 → Passing order net s pool
  unfolding network_refusal
  passing a =
      let b = or_right (cond (ltb (length pool) pool_size) 13 0) _ a in
      let c = or_right (core_refusal order net.core s) _ b in
      record {
        room = ltb-false (length pool) pool_size (if_so _ 12 (or_left (cond (ltb (length pool) pool_size) 13 0) _ a));
        core = sound_core order net.core s (or_left (core_refusal order net.core s) _ b);
        few = leb-true net.used pool_cells (if_not _ 4 (or_left (cond (leb net.used pool_cells) 0 5) _ c));
      }

  -- ---- of an echo: a refusal ends it, and without one it goes on

  pub echo_refused : (bytes : List ℕ) (k : ℕ) → suc k ≡ network_refusal order net s pool → echo_of order net s pool bytes ≡ refused_delivery net pool (suc k)
  unfolding echo_of
  echo_refused bytes k e = ap (λ y. echo_by order y net s pool bytes) (sym e)

  pub echo_stops : (bytes : List ℕ) (r : ℕ) → r ≡ network_refusal order net s pool → (r ≡ 0 → ⊥) → (record { refusal = r; network = net } ≡ (echo_of order net s pool bytes).answer) × (pool ≡ (echo_of order net s pool bytes).pool)
  echo_stops bytes zero e z = absurd (z refl)
  echo_stops bytes (suc r) e z = rw (echo_refused bytes r e) (refl, refl)

  pub echo_goes : (bytes : List ℕ) → network_refusal order net s pool ≡ 0 → echo_by order 0 net s pool bytes ≡ echo_of order net s pool bytes
  unfolding echo_of
  echo_goes bytes e = rw e

module _ (order : ValueOrder) (net : Network) (s pool : List ℕ) (cell : ℕ) where
  pub check_network : (r : ℕ) → r ≡ network_refusal order net s pool → (r ≡ 0 → ⊥) → r ≡ deliver_refusal order net s pool cell
  unfolding deliver_refusal
  check_network r e z = rw (← e, or_first r _ z)

  pub check_cell : network_refusal order net s pool ≡ 0 → net.used ≤ cell → 15 ≡ deliver_refusal order net s pool cell
  unfolding deliver_refusal
  check_cell e l = rw (e, le-leb net.used cell l)

  pub check_none : network_refusal order net s pool ≡ 0 → cell < net.used → 0 ≡ deliver_refusal order net s pool cell
  unfolding deliver_refusal
  check_none e l = rw (e, lt-leb net.used cell l)

  pub opened : deliver_refusal order net s pool cell ≡ 0 → Open order net s pool cell
  unfolding deliver_refusal
  opened z = record {
    passed = passing order net s pool (or_left (network_refusal order net s pool) _ z);
    here = leb-false net.used cell (if_so _ 14 (or_right (network_refusal order net s pool) _ z));
  }

  pub deliver-refused : (k : ℕ) → suc k ≡ deliver_refusal order net s pool cell → deliver_of order net s pool cell ≡ refused_delivery net pool (suc k)
  unfolding deliver_of
  deliver-refused k e = ap (λ y. deliver_by order y net s pool cell) (sym e)

  pub deliver_stops : (r : ℕ) → r ≡ deliver_refusal order net s pool cell → (r ≡ 0 → ⊥) → (record { refusal = r; network = net } ≡ (deliver_of order net s pool cell).answer) × (pool ≡ (deliver_of order net s pool cell).pool)
  deliver_stops zero e z = absurd (z refl)
  deliver_stops (suc r) e z = rw (deliver-refused r e) (refl, refl)

  pub deliver_goes : deliver_refusal order net s pool cell ≡ 0 → deliver_by order 0 net s pool cell ≡ deliver_of order net s pool cell
  unfolding deliver_of
  deliver_goes e = rw e

pub pred_sub : (k : ℕ) → pred k ≡ k - 1
pred_sub zero = refl
pred_sub (suc k) = omega arith

-- the unit that steps is one of the n
pub receiver_range : (n : ℕ) (bytes : List ℕ) → 1 ≤ n → (1 ≤ receiver_of n bytes) × (receiver_of n bytes ≤ n)
receiver_range n bytes l = go (is_unit n (get_or bytes 2 0)) refl
  where
    go : (t : Bool) → is_unit n (get_or bytes 2 0) ≡ t → (1 ≤ cond t (get_or bytes 2 0) 1) × (cond t (get_or bytes 2 0) 1 ≤ n)
    go true e = unit_range n (get_or bytes 2 0) e
    go false e = (omega arith, l)

-- ---- the gathered costs: of any unit, whether gathering refuses or not

module _ (s : List ℕ) (own : ℕ) where
  -- what is gathered fits
  fits_in : (room : ℕ) → gather_refusal s own room ≡ 0 → length (gathered s own) ≤ room
  unfolding gather_refusal
  fits_in room e = go (eqb (stream_refusal s) 5) (is_value (units_of s) own) e
    where
      go : (t v : Bool) → cond t 5 (cond v (or_else (stream_refusal s) (cond (ltb room (length (gathered s own))) 13 0)) 10) ≡ 0 → length (gathered s own) ≤ room
      go true v e = absurd (omega arith)
      go false true e = ltb-false room (length (gathered s own)) (if_so _ 12 (or_right (stream_refusal s) _ e))
      go false false e = absurd (omega arith)

  pub gather_within : (room : ℕ) (g : Length) → g ≡ gather_of s own room → g.length ≤ room
  gather_within room g e = rw e (go (eqb (gather_refusal s own room) 0) refl)
    where
      go : (t : Bool) → eqb (gather_refusal s own room) 0 ≡ t → (cond {A = Length} t (record { refusal = 0; length = length (gathered s own) }) (record { refusal = gather_refusal s own room; length = 0 })).length ≤ room
      go true e = fits_in room (eqb-true (gather_refusal s own room) 0 e)
      go false e = omega arith

  -- the part of the buffer that is lent
  pub lent-part : (out : List ℕ) (g : Length) → g ≡ gather_of s own costs_size → out ≡ gather_into s own (replicate costs_size 0) → take g.length out ≡ lent_of s own
  unfolding lent_of
  lent-part out g e f = rw (e, f)

-- how many bytes were gathered, 0 where gathering refused
pub counted : (r : Gathering ℕ Refusal) → result_unwrap_or r 0 ≡ (answered r).length
counted (Ok count) = refl
counted (Err r) = refl

-- ---- of one of the n units of a good stream, in front of a buffer of 7,712 bytes or more

module _ (s : List ℕ) (ok : Accepted s) (own : ℕ) (first : 1 ≤ own) (last : own ≤ units_of s) where
  pub lent-count : (room : ℕ) (g : Length) → costs_size ≤ room → g ≡ gather_of s own room → g.length ≤ costs_size
  lent-count room g h e = rw (e, gather_enough s ok own first last room h) (gathered-most s ok own first last)

  pub lent_length : (room : ℕ) (g : Length) → costs_size ≤ room → g ≡ gather_of s own room → g.length ≡ length (gathered s own)
  lent_length room g h e = rw (e, gather_enough s ok own first last room h)

  pub lent_front : (l out : List ℕ) (g : Length) → costs_size ≤ length l → g ≡ gather_of s own (length l) → out ≡ gather_into s own l → take g.length out ≡ gathered s own
  lent_front l out g h e f = rw (e, f) (gather_front s ok own first last l h)

  -- so these are what a unit is lent
  pub lent_is : lent_of s own ≡ gathered s own
  unfolding lent_of
  lent_is =
      let blank : List ℕ = replicate costs_size 0 in
      let e : length blank ≡ costs_size = length-replicate {A = ℕ} costs_size 0 in
      lent_front blank (gather_into s own blank) (gather_of s own costs_size) (omega (arith, e)) (ap (gather_of s own) (sym e)) refl

module _ (order : ValueOrder) (s : List ℕ) (ok : Accepted s) (us : List UnitState) (own : ℕ) (first : 1 ≤ own) (last : own ≤ units_of s) (state : unit_in_range order s us (pred own) ≡ true) (bytes : List ℕ) (room : ℕ) (fits : sending_size ≤ room) where
  pub passes : Passed order (unit_at us (pred own)) own (units_of s) (sizes_in s) (gathered s own) room
  passes = record {
    shape = accepted-sizes_good s ok;
    unit = rw (le-leb 1 own first, le-leb own (units_of s) last);
    lent = gathered_good s ok own first last (sizes_in s) (accepted-sizes-first s ok);
    state = rw (gathered-view order s ok own first last (sizes_in s) (accepted-sizes-first s ok)) state;
    fits = fits;
  }

  pub step_is : step_out order (unit_at us (pred own)) own (units_of s) (sizes_in s) (gathered s own) bytes room ≡ step_from8 order s us own bytes
  unfolding step_out step_from8
  step_is =
      rw (UL.not_refused own (units_of s) (sizes_in s) (gathered s own) room order (unit_at us (pred own)) passes, gathered-view order s ok own first last (sizes_in s) (accepted-sizes-first s ok))

  pub step_keeps : SizedUnit (unit_at us (pred own)) → AllBytes bytes → Whenever (GoodDecision (units_of s) (sizes_in s) (view_by order (instance_of s) (pred own)) 16) (step_from8 order s us own bytes)
  step_keeps arrays all =
      let most : units_of s ≤ length (sizes_in s) = omega (arith, length_sizes s, (accepted_units s ok).1) in
      subst (λ (o : Decision). Whenever (GoodDecision (units_of s) (sizes_in s) (view_by order (instance_of s) (pred own)) 16) o) step_is
      (rw (gathered-view order s ok own first last (sizes_in s) (accepted-sizes-first s ok)) at
      (UL.step_kept order own (units_of s) (sizes_in s) (gathered s own) room most (unit_at us (pred own)) arrays bytes all))

-- a refusal of it has a number
pub step_numbered : (order : ValueOrder) (s : List ℕ) (us : List UnitState) (own : ℕ) (bytes : List ℕ) → Numbered (step_from8 order s us own bytes)
unfolding step_from8
step_numbered order s us own bytes =
    read_numbered (view_by order (instance_of s) (pred own)) (unit_at us (pred own)) (parse_for (units_of s) (sizes_in s) own bytes) (parse_numbered (units_of s) (sizes_in s) own bytes)

-- the step of `unit`, lent what the stream says
pub step-told : (order : ValueOrder) (s : List ℕ) (own : ℕ) (u : UnitState) → Stepping order s own u → (n : ℕ) (sizes costs bytes before after : List ℕ) (r : Outcome) → n ≡ units_of s → sizes ≡ sizes_in s → costs ≡ gathered s own
    → sending_size ≤ length before → r ≡ outcome_of n (pred own) u (step_out order u own n sizes costs bytes (length before)) → after ≡ bytes_of n (pred own) before (step_out order u own n sizes costs bytes (length before))
    → Stepped order s own u bytes before r after
step-told order s own u g n sizes costs bytes before after r units array lent fits e f = record {
  outcome = λ us at. e ∙ rw (units, array, lent) (ap (λ (o : Decision). outcome_of (units_of s) (pred own) u o) (same us at));
  buffer = λ us at. f ∙ rw (units, array, lent) (ap (λ (o : Decision). bytes_of (units_of s) (pred own) before o) (same us at));
}
  where
    same : (us : List UnitState) → unit_at us (pred own) ≡ u → step_out order u own (units_of s) (sizes_in s) (gathered s own) bytes (length before) ≡ step_from8 order s us own bytes
    same us at =
        ap (λ (x : UnitState). step_out order x own (units_of s) (sizes_in s) (gathered s own) bytes (length before)) (sym at)
        ∙ step_is order s g.table us own g.first g.last (rw at g.state) bytes (length before) fits

-- it never sends more than 16 packets
pub few_sent : (order : ValueOrder) (s : List ℕ) (own : ℕ) (was : UnitState) (o : Decision) (r : Outcome) → r ≡ outcome_of (units_of s) (pred own) was o
    → Whenever (GoodDecision (units_of s) (sizes_in s) (view_by order (instance_of s) (pred own)) 16) o → r.sent ≤ 16
few_sent order s own was (U.refused x) r e k = rw e (omega arith)
few_sent order s own was (U.accepted u m ws) r e k = rw e k.few

module _ (order : ValueOrder) (net : Network) (s pool : List ℕ) (own : ℕ) (was : UnitState) (o : Decision) (r : Outcome) (told : r ≡ outcome_of (units_of s) (pred own) was o) where
  module _ (left : ℕ) (put : List Packet → List ℕ) where
    pub step_refuses : (r.refusal ≡ 0 → ⊥) → (record { refusal = r.refusal; network = net } ≡ (stored net pool left put (units_of s) own o).answer) × (pool ≡ (stored net pool left put (units_of s) own o).pool)
    step_refuses z = go o told
      where
        go : (o : Decision) → r ≡ outcome_of (units_of s) (pred own) was o
            → (record { refusal = r.refusal; network = net } ≡ (stored net pool left put (units_of s) own o).answer) × (pool ≡ (stored net pool left put (units_of s) own o).pool)
        go (U.refused x) e = (rw e, refl)
        go (U.accepted u m ws) e = absurd (z (rw e))

    pub step_stores : r.refusal ≡ 0 → Numbered o → Whenever (GoodDecision (units_of s) (sizes_in s) (view_by order (instance_of s) (pred own)) 16) o → (cleared out was-out : List ℕ) → out ≡ bytes_of (units_of s) (pred own) was-out o
        → ((ps : List Packet) → take (message_size * length ps) out ≡ encode_all ps → paste cleared (message_size * left) out (message_size * length ps) ≡ put ps)
        → (stored_answer net left own r ≡ (stored net pool left put (units_of s) own o).answer) × (stored_pool cleared left r out pool ≡ (stored net pool left put (units_of s) own o).pool)
    step_stores z number k cleared out was-out sent puts = go o told number k sent
      where
        go : (o : Decision) → r ≡ outcome_of (units_of s) (pred own) was o → Numbered o → Whenever (GoodDecision (units_of s) (sizes_in s) (view_by order (instance_of s) (pred own)) 16) o → out ≡ bytes_of (units_of s) (pred own) was-out o
            → (stored_answer net left own r ≡ (stored net pool left put (units_of s) own o).answer) × (stored_pool cleared left r out pool ≡ (stored net pool left put (units_of s) own o).pool)
        go (U.refused x) e number k sent = let q : x ≡ 0 = sym (ap (λ (y : Outcome). y.refusal) e) ∙ z in absurd (omega arith)
        go (U.accepted u m ws) e number k sent = rw e (by_room (leb (left + length (packets (units_of s) (pred own) m)) pool_cells))
          where
            bytes : take (message_size * length (packets (units_of s) (pred own) m)) out ≡ encode_all (packets (units_of s) (pred own) m)
            bytes =
                ap (take (message_size * length (packets (units_of s) (pred own) m))) sent
                ∙ sent_front (packets (units_of s) (pred own) m) was-out (encode_all_length (packets (units_of s) (pred own) m) (λ p i. (k.sent p i).arrays))

            next : Result
            next = record {
              answer = record { refusal = 0; network = network_after net own u (left + length (packets (units_of s) (pred own) m)) (length ws) };
              pool = put (packets (units_of s) (pred own) m);
            }

            by_room : (t : Bool)
                → (cond t (record { refusal = 0; network = network_after net own u (left + length (packets (units_of s) (pred own) m)) (length ws) }) (record { refusal = 14; network = net }) ≡ (cond t next (refused_delivery net pool 14)).answer)
                × (cond t (paste cleared (message_size * left) out (message_size * length (packets (units_of s) (pred own) m))) pool ≡ (cond t next (refused_delivery net pool 14)).pool)
            by_room true = (refl, puts (packets (units_of s) (pred own) m) bytes)
            by_room false = (refl, refl)

-- ---- a packet goes to its unit, once the units and counts are sound: n and own as the code has them, and the packet's bytes

module _ (order : ValueOrder) (core : Core) (s : List ℕ) (sound : SoundCore order core s) (n own : ℕ) (bytes : List ℕ) (units : n ≡ units_of s) (named : own ≡ receiver_of n bytes) where
  pub own_is : own ≡ receiver_of (units_of s) bytes
  own_is = named ∙ rw units

  pub own_first : 1 ≤ own
  own_first = rw own_is (receiver_range (units_of s) bytes (accepted_units s sound.table).0).0

  pub own-last : own ≤ units_of s
  own-last = rw own_is (receiver_range (units_of s) bytes (accepted_units s sound.table).0).1

  pub own-most : own ≤ 16
  own-most = omega (arith, own-last, (accepted_units s sound.table).1)

  module _ (u : UnitState) (at : u ≡ unit_at core.units (own - 1)) where
    pub at_place : unit_at core.units (pred own) ≡ u
    at_place = sym (at ∙ ap (λ (k : ℕ). unit_at core.units k) (sym (pred_sub own)))

    in_range_lem : unit_in_range order s core.units (pred own) ≡ true
    in_range_lem = sound.states (pred own) (omega (arith, own_first, own-last, pred_sub own))

    pub stepping : Stepping order s own u
    stepping = record { table = sound.table; first = own_first; last = own-last; state = rw at_place at in_range_lem }

    -- its step, as `core` gives it
    pub hand-told : (before out : List ℕ) (r : Outcome) → sending_size ≤ length before → r ≡ outcome_of (units_of s) (pred own) u (step_lent order s u own bytes (length before))
        → out ≡ bytes_of (units_of s) (pred own) before (step_lent order s u own bytes (length before)) → Stepped order s own u bytes before r out
    hand-told before out r fits e f = step-told order s own u stepping (units_of s) (sizes_in s) (lent_of s own) bytes before out r refl refl (lent_is s sound.table own own_first own-last) fits e f

    pub hand_keeps : SizedUnit u → AllBytes bytes → Whenever (GoodDecision (units_of s) (sizes_in s) (view_by order (instance_of s) (pred own)) 16) (step_from8 order s core.units own bytes)
    hand_keeps arrays all = step_keeps order s sound.table core.units own own_first own-last in_range_lem bytes sending_size (omega arith) (subst (λ (x : UnitState). SizedUnit x) (sym at_place) arrays) all

    pub hand-gives : (before out : List ℕ) (r : Outcome) → Stepped order s own u bytes before r out → r ≡ outcome_of (units_of s) (pred own) u (step_from8 order s core.units own bytes)
    hand-gives before out r told = told.outcome core.units at_place

    pub hand_sent : (before out : List ℕ) (r : Outcome) → Stepped order s own u bytes before r out → SizedUnit u → AllBytes bytes → r.sent ≤ 16
    hand_sent before out r told arrays all = few_sent order s own u (step_from8 order s core.units own bytes) r (hand-gives before out r told) (hand_keeps arrays all)

-- ---- a packet goes to a unit of the network, once all checks have passed

module _ (order : ValueOrder) (net : Network) (s pool : List ℕ) (checks : Passing order net s pool) (n own : ℕ) (bytes : List ℕ) (units : n ≡ units_of s) (named : own ≡ receiver_of n bytes)
    (u : UnitState) (at : u ≡ unit_at net.core.units (own - 1)) (before out : List ℕ) (r : Outcome) (told : Stepped order s own u bytes before r out) (arrays : SizedUnit u) (all : AllBytes bytes) where
  abbrev o : Decision
  o = step_from8 order s net.core.units own bytes

  receives : own ≡ receiver_of (units_of s) bytes
  receives = own_is order net.core s checks.core n own bytes units named

  gives : r ≡ outcome_of (units_of s) (pred own) u (step_from8 order s net.core.units own bytes)
  gives = hand-gives order net.core s checks.core n own bytes units named u at before out r told

  module _ (left : ℕ) (put : List Packet → List ℕ) where
    refuses : (r.refusal ≡ 0 → ⊥) → (record { refusal = r.refusal; network = net } ≡ (stored net pool left put (units_of s) own o).answer) × (pool ≡ (stored net pool left put (units_of s) own o).pool)
    refuses z = step_refuses order net s pool own u o r gives left put z

    stores : r.refusal ≡ 0 → (cleared : List ℕ) → ((ps : List Packet) → take (message_size * length ps) out ≡ encode_all ps → paste cleared (message_size * left) out (message_size * length ps) ≡ put ps)
        → (stored_answer net left own r ≡ (stored net pool left put (units_of s) own o).answer) × (stored_pool cleared left r out pool ≡ (stored net pool left put (units_of s) own o).pool)
    stores z cleared puts =
        step_stores order net s pool own u o r gives left put z (step_numbered order s net.core.units own bytes) (hand_keeps order net.core s checks.core n own bytes units named u at arrays all) cleared out before
        (told.buffer net.core.units (at_place order net.core s checks.core n own bytes units named u at)) puts

  -- of an echo
  pub hear_refuses : (r.refusal ≡ 0 → ⊥) → (record { refusal = r.refusal; network = net } ≡ (echo_by order 0 net s pool bytes).answer) × (pool ≡ (echo_by order 0 net s pool bytes).pool)
  hear_refuses z = rw (← receives) (refuses net.used (λ (ps : List Packet). pool_with net.used ps pool) z)

  pub hear_stores : r.refusal ≡ 0 → (stored_answer net net.used own r ≡ (echo_by order 0 net s pool bytes).answer) × (stored_pool pool net.used r out pool ≡ (echo_by order 0 net s pool bytes).pool)
  hear_stores z = rw (← receives) (stores net.used (λ (ps : List Packet). pool_with net.used ps pool) z pool (λ ps e. pool_added pool net.used ps out e))

  -- of a delivery, from a cell that holds these bytes
  module _ (cell : ℕ) (here : cell < net.used) (stands : bytes ≡ cell_of pool cell) where
    pub hand_refuses : (r.refusal ≡ 0 → ⊥) → (record { refusal = r.refusal; network = net } ≡ (deliver_by order 0 net s pool cell).answer) × (pool ≡ (deliver_by order 0 net s pool cell).pool)
    hand_refuses z = rw (← stands, ← receives) (refuses (net.used - 1) (λ (ps : List Packet). pool_after net.used cell ps pool) z)

    pub hand_stores : r.refusal ≡ 0 → (stored_answer net (net.used - 1) own r ≡ (deliver_by order 0 net s pool cell).answer)
        × (stored_pool (close_gap pool (message_size * cell) (message_size * net.used)) (net.used - 1) r out pool ≡ (deliver_by order 0 net s pool cell).pool)
    hand_stores z =
        rw (← stands, ← receives)
        (stores (net.used - 1) (λ (ps : List Packet). pool_after net.used cell ps pool) z (close_gap pool (message_size * cell) (message_size * net.used))
        (λ ps e. pool_stored pool net.used cell here (omega (arith, checks.room, checks.few)) ps out e))

-- ---- making

module _ (size : ℕ) (s : List ℕ) (room : ℕ) where
  pub make-table : (r : ℕ) → r ≡ stream_refusal s → (r ≡ 0 → ⊥) → r ≡ making_refusal size s room
  unfolding making_refusal
  make-table r e z = rw (← e, or_first r _ z)

  pub make_room : stream_refusal s ≡ 0 → room < size → 13 ≡ making_refusal size s room
  unfolding making_refusal
  make_room e l = rw (e, lt-ltb room size l)

  pub make_none : stream_refusal s ≡ 0 → size ≤ room → 0 ≡ making_refusal size s room
  unfolding making_refusal
  make_none e l = rw (e, le-ltb room size l)

  pub makeable : making_refusal size s room ≡ 0 → Accepted s × (size ≤ room)
  unfolding making_refusal Accepted
  makeable z = (or_left (stream_refusal s) _ z, ltb-false room size (if_so _ 12 (or_right (stream_refusal s) _ z)))

module _ (order : ValueOrder) (s pool : List ℕ) where
  pub make_refuses : (r : ℕ) → r ≡ making_refusal pool_size s (length pool) → (r ≡ 0 → ⊥) → (record { refusal = r; network = no_network } ≡ (make_of order s pool).answer) × (pool ≡ (make_of order s pool).pool)
  unfolding make_of
  make_refuses zero e z = absurd (z refl)
  make_refuses (suc r) e z = rw (← e) (refl, refl)

  -- unit 1 assigns
  pub first_step : Accepted s → (room : ℕ) → sending_size ≤ room → first_lent order s room ≡ assign (view_by order (instance_of s) 0) fresh
  unfolding make_out UC.make_refusal UC.seat_refusal
  first_step ok room fits =
      let last : 1 ≤ units_of s = (accepted_units s ok).0 in
      let lent = gathered_good s ok 1 (omega arith) last (sizes_in s) (accepted-sizes-first s ok) in
      rw (lent_is s ok 1 (omega arith) last, accepted-sizes_good s ok, le-leb 1 (units_of s) last, lent, le-ltb room sending_size fits, gathered-view order s ok 1 (omega arith) last (sizes_in s) (accepted-sizes-first s ok))

module _ (order : ValueOrder) (s pool : List ℕ) (r : Outcome) (out : List ℕ) (told : r ≡ outcome_of (units_of s) 0 no_unit (assign (view_by order (instance_of s) 0) fresh))
    (sent : out ≡ bytes_of (units_of s) 0 pool (assign (view_by order (instance_of s) 0) fresh)) where
  pub make_begins : making_refusal pool_size s (length pool) ≡ 0 → (begun_answer r ≡ (make_of order s pool).answer) × (out ≡ (make_of order s pool).pool)
  unfolding make_of
  make_begins z = rw z (go (assign (view_by order (instance_of s) 0) fresh) (assign_accepts (view_by order (instance_of s) 0) fresh) told sent)
    where
      go : (o : Decision) → Accepts o → r ≡ outcome_of (units_of s) 0 no_unit o → out ≡ bytes_of (units_of s) 0 pool o
          → (begun_answer r ≡ (made (units_of s) pool o).answer) × (out ≡ (made (units_of s) pool o).pool)
      go (U.refused x) a e f = absurd a
      go (U.accepted u m ws) a e f = (rw e, f)
