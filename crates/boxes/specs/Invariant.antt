-- THE INVARIANT of boxes on the air, on bytes and in the machine at once. Making gives it (Making.antt) and each event keeps it, whatever its position
-- (`hear-kept`): a box that has not stopped takes the packet, and its step is the machine's step; one that has stopped refuses it by 12 (`heard`).
-- In order: the air as packets; the invariant; a packet in the air and its step; any event.
-- Assumes nothing.
use Prim.Native.Nat.{ℕ, suc, ◌<◌, pred}
use Rattle.std.specs.Prelude.{◌≡◌, Bool, length, get_or, set, take, drop}
use Rattle.std.proofs.Math.Path.{refl, ap, subst}
use Rattle.std.proofs.Common.{sym, ◌∙◌, arith, take-append-drop}
use Rattle.std.proofs.Math.Bool.{true, false}
use mathlib.Core.List.{List, [], ◌∷◌, ◌++◌, map, map-append}
use Rattle.base.specs.Limits.{sending_size}
use Rattle.base.specs.Members.{In, here, Every}
use Rattle.base.specs.Members.Laws.{in_right, in_more, every_append}
use Rattle.table.specs.Stream.{units_of, Accepted}
use Rattle.table.specs.StreamLaws.{accepted_units}
use Rattle.costs.specs.declared.ValueOrder.{ValueOrder}
use Rattle.costs.specs.Instance.{View, instance_of}
use Rattle.costs.specs.Laws.Tried.{problem_by}
use Rattle.costs.specs.Laws.Stream.{sound_of}
use Rattle.costs.specs.Gather.{sizes_in}
use Rattle.costs.specs.Gather.Sizes.{length_sizes, accepted-sizes-first, accepted-sizes_good}
use Rattle.costs.specs.Gather.Laws.{gathered-view, gathered_good}
use Rattle.costs.specs.Gathered.{gathered}
use Rattle.message.specs.Message.{Packet, is_unit}
use Rattle.message.specs.RoundTrip.{receiver_of_encode}
use Rattle.rules.specs.declared.Unit.{Unit as UnitState}
use Rattle.rules.specs.declared.Sending.{Sending}
use Rattle.rules.specs.State.{in_range}
use Rattle.rules.specs.Step as U
use Rattle.rules.specs.Step.{Decision, Written, respond}
use Rattle.rules.specs.Send.{packets, packet_bytes}
use Rattle.rules.specs.Units.{unit_at, place_of, step_on}
use Rattle.rules.specs.Laws.Packets.{Sendable}
use Rattle.rules.specs.Laws.Assign.{Whenever}
use Rattle.rules.specs.Laws.Calls.{step_of_packet}
use Rattle.rules.specs.Laws.Units.{AllInRange, Leaves, receiver_unit, place_in, step_in_range}
use Rattle.protocol.specs.Machine as M
use Rattle.protocol.specs.Machine.{to, Network}
use Rattle.protocol.specs.Air.Theorem.{KeptOnAir}
use Rattle.protocol.proofs.Air.Theorem.{accept_kept}
use Rattle.protocol.specs.Simulation.Relations.{ReadAll, read_append}
use Rattle.protocol.proofs.Simulation.Units as X
use Rattle.protocol.specs.Simulation.Units.{Matches, Simulated, StepsTo}
use Rattle.protocol.proofs.Simulation.Units.{read_to, read_cut, step_simulated}
use Rattle.protocol.proofs.Simulation.Table.{stream-free, laws, views}
use Rattle.boxes.specs.Boxes.{step_box, Boxes, boxes_after, receiver_in, answer_to, hear_at, hear}

-- ---- the air as packets

-- a list of bytes, cut at one of them, is the packets cut there
pub record CutMap (ps : List Packet) (before : List (List ℕ)) (bytes : List ℕ) (behind : List (List ℕ)) : Type 0 where
  pub front : List Packet
  pub packet : Packet
  pub rest : List Packet
  pub whole : ps ≡ front ++ (packet ∷ rest)
  pub before_is : before ≡ map packet_bytes front
  pub bytes_are : bytes ≡ packet_bytes packet
  pub behind_is : behind ≡ map packet_bytes rest

pub cut_map : (ps : List Packet) (before : List (List ℕ)) (bytes : List ℕ) (behind : List (List ℕ)) → before ++ (bytes ∷ behind) ≡ map packet_bytes ps → CutMap ps before bytes behind
cut_map [] [] bytes behind e = absurd (omega (arith, ap length e))
cut_map [] (x ∷ before) bytes behind e = absurd (omega (arith, ap length e))
cut_map (p ∷ ps) [] bytes behind e = record { front = []; packet = p; rest = ps; whole = refl; before_is = refl; bytes_are = ap (λ l. get_or l 0 []) e; behind_is = ap (drop 1) e }
cut_map (p ∷ ps) (x ∷ before) bytes behind e =
    let c = cut_map ps before bytes behind (ap (drop 1) e) in
    let h : x ≡ packet_bytes p = ap (λ l. get_or l 0 []) e in
    record {
      front = p ∷ c.front;
      packet = c.packet;
      rest = c.rest;
      whole = ap (λ l. p ∷ l) c.whole;
      before_is = ap (λ y. y ∷ before) h ∙ ap (λ l. packet_bytes p ∷ l) c.before_is;
      bytes_are = c.bytes_are;
      behind_is = c.behind_is;
    }

module _ (order : ValueOrder) (s : List ℕ) (ok : Accepted s) where
  -- ---- what holds at each point

  pub record Invariant (B : Boxes) : Type 0 where
    pub machine : Network
    pub packets : List Packet
    -- the air: packets that can be written, which read as the machine's messages
    pub air : B.air ≡ map packet_bytes packets
    pub sendable : Every (Sendable (instance_of s).n (sizes_in s)) packets
    pub reads : ReadAll order (instance_of s) packets machine.pool
    -- the boxes: in range, and the machine's units
    pub range : AllInRange order (instance_of s) (sizes_in s) B.units
    pub matches : Matches order (instance_of s) B.units B.written machine.units
    pub count : B.accepted ≡ machine.accepted
    pub kept : KeptOnAir (problem_by order (instance_of s)) machine

  -- ---- the packet p in the air, and its step

  module _ (B : Boxes) (i : Invariant B) (b : List Packet) (p : Packet) (a : List Packet) (e : i.packets ≡ b ++ (p ∷ a)) where
    w : Sendable (instance_of s).n (sizes_in s) p
    w = i.sendable p (subst (In p) (sym e) (in_right b (here refl)))

    lt : place_of p < (instance_of s).n
    lt = (place_in (instance_of s).n (sizes_in s) p w).0

    pub place_is : receiver_in (packet_bytes p) ≡ place_of p
    place_is = ap pred (receiver_of_encode p.kind p.message w.arrays)

    -- the call is the unit's response to the packet
    pub answer_is : answer_to order s B (packet_bytes p) ≡ step_on order (instance_of s) B.units p
    unfolding instance_of
    answer_is =
        let k : ℕ = place_of p in
        let v = gathered-view order s ok (suc k) (omega arith) lt (sizes_in s) (accepted-sizes-first s ok) in
        let q = (place_in (instance_of s).n (sizes_in s) p w).1 in
        ap (λ (j : ℕ). step_box order s j (unit_at B.units j) (packet_bytes p)) place_is
        ∙ step_of_packet order (suc k) (units_of s) (sizes_in s) (gathered s (suc k)) sending_size (omega (arith, length_sizes s, (accepted_units s ok).1)) (unit_at B.units k)
        (record {
          shape = accepted-sizes_good s ok;
          unit = subst (λ r. is_unit (units_of s) r ≡ true) q (receiver_unit (instance_of s).n (sizes_in s) p w);
          lent = gathered_good s ok (suc k) (omega arith) lt (sizes_in s) (accepted-sizes-first s ok);
          state = subst (λ (x : View). in_range (sizes_in s) x (unit_at B.units k) ≡ true) (sym v) (i.range.states k lt);
          fits = omega arith;
        })
        p w q
        ∙ ap (λ (x : View). respond x p.kind (unit_at B.units k) p.message) v

    -- a box that has stopped refuses by 12; any other accepts
    abbrev pub Heard : Decision → Type 0
    Heard (U.refused r) = (r ≡ 12) × ((unit_at B.units (place_of p)).stopped ≡ true)
    Heard (U.accepted u o ws) =
        ((unit_at B.units (place_of p)).stopped ≡ false)
        × Invariant (record { units = set B.units (place_of p) u; air = (map packet_bytes b ++ map packet_bytes a) ++ map packet_bytes (packets (instance_of s).n (place_of p) o); written = B.written ++ ws; accepted = suc B.accepted })

    -- the machine's message
    cut : X.CutAt order (instance_of s) b p a i.machine.pool
    cut = read_cut order (instance_of s) b p a i.machine.pool (subst (λ l. ReadAll order (instance_of s) l i.machine.pool) e i.reads)

    module _ (st : (unit_at B.units (place_of p)).stopped ≡ false) where
      off : (i.machine.units (to cut.message)).stopped ≡ false
      off = subst (λ k. (i.machine.units k).stopped ≡ false) (read_to order (instance_of s) p cut.message cut.reads) (sym (i.matches.units (place_of p) lt).common.stopped_is ∙ st)

      stepped : Simulated order (instance_of s) B.units B.written i.machine.units (place_of p) (M.step (problem_by order (instance_of s)) (i.machine.units (to cut.message)) cut.message) (step_on order (instance_of s) B.units p)
      stepped =
          step_simulated order (instance_of s) (sound_of s ok) (stream-free s) B.units B.written i.machine.units i.matches i.kept.network.safe p cut.message cut.reads
          (i.kept.network.msgs cut.message (subst (In cut.message) (sym cut.whole) (in_right cut.before (here refl)))) off

      -- it gave u, o and ws
      accepts : (u : UnitState) (o : Sending) (ws : List Written) → StepsTo order (instance_of s) B.units B.written i.machine.units (place_of p) (M.step (problem_by order (instance_of s)) (i.machine.units (to cut.message)) cut.message) u o ws
          → Leaves order (instance_of s) (sizes_in s) B.units (place_of p) u o ws → Heard (U.accepted u o ws)
      accepts u o ws x l = (
        st,
        record {
          machine = record { units = M.put i.machine.units (to cut.message) x.agent; pool = (cut.before ++ cut.behind) ++ x.sent; accepted = suc i.machine.accepted };
          packets = (b ++ a) ++ packets (instance_of s).n (place_of p) o;
          air = rw (map-append packet_bytes (b ++ a) (packets (instance_of s).n (place_of p) o), map-append packet_bytes b a);
          sendable = every_append _ (b ++ a) (packets (instance_of s).n (place_of p) o) (λ y j. i.sendable y (subst (In y) (sym e) (in_more b p a j))) l.sent;
          reads =
              read_append order (instance_of s) (b ++ a) (packets (instance_of s).n (place_of p) o) (cut.before ++ cut.behind) x.sent
              (read_append order (instance_of s) b a cut.before cut.behind cut.reads_before cut.reads_behind) x.reads;
          range = l.units;
          matches = subst (λ k. Matches order (instance_of s) (set B.units (place_of p) u) (B.written ++ ws) (M.put i.machine.units k x.agent)) (read_to order (instance_of s) p cut.message cut.reads) x.matches;
          count = ap suc i.count;
          kept =
              accept_kept (problem_by order (instance_of s)) (laws order s ok) (sound_of s ok).n1 i.machine i.kept cut.before cut.behind cut.message x.agent x.sent cut.whole off x.steps;
        },
      )

      runs_on : (d : Decision) → Simulated order (instance_of s) B.units B.written i.machine.units (place_of p) (M.step (problem_by order (instance_of s)) (i.machine.units (to cut.message)) cut.message) d
          → Whenever (Leaves order (instance_of s) (sizes_in s) B.units (place_of p)) d → Heard d
      runs_on (U.refused r) x l = absurd x
      runs_on (U.accepted u o ws) x l = accepts u o ws x l

    pub heard : Heard (step_on order (instance_of s) B.units p)
    unfolding respond
    heard = go (unit_at B.units (place_of p)).stopped refl
      where
        go : (t : Bool) → (unit_at B.units (place_of p)).stopped ≡ t → Heard (step_on order (instance_of s) B.units p)
        go true st = rw st (refl, st)
        go false st = runs_on st (step_on order (instance_of s) B.units p) (stepped st) (step_in_range order (instance_of s) (sizes_in s) (sound_of s ok).n16 (views order s ok) B.units i.range p w)

    -- what is left once it was heard
    after_heard : (d : Decision) → Heard d → Invariant (boxes_after (units_of s) B (place_of p) (map packet_bytes b ++ map packet_bytes a) (suc B.accepted) d)
    unfolding instance_of
    after_heard (U.refused r) h = i
    after_heard (U.accepted u o ws) h = h.1

    pub packet-kept : Invariant (boxes_after (units_of s) B (receiver_in (packet_bytes p)) (map packet_bytes b ++ map packet_bytes a) (suc B.accepted) (answer_to order s B (packet_bytes p)))
    packet-kept = rw (answer_is, place_is) (after_heard (step_on order (instance_of s) B.units p) heard)

  -- ---- any event

  pub hear-kept : (B : Boxes) → Invariant B → (c : ℕ) → Invariant (hear order s B c)
  unfolding hear
  hear-kept B i c = at (take c B.air) (drop c B.air) (take-append-drop c B.air)
    where
      cut-kept : (b : List Packet) (p : Packet) (a : List Packet) → i.packets ≡ b ++ (p ∷ a) → (before : List (List ℕ)) (bytes : List ℕ) (behind : List (List ℕ)) → before ≡ map packet_bytes b
          → bytes ≡ packet_bytes p → behind ≡ map packet_bytes a → Invariant (hear_at order s B before (bytes ∷ behind))
      cut-kept b p a e before bytes behind x y z = rw (x, y, z) (packet-kept B i b p a e)

      at : (before behind : List (List ℕ)) → before ++ behind ≡ B.air → Invariant (hear_at order s B before behind)
      at before [] e = i
      at before (bytes ∷ behind) e =
          let c = cut_map i.packets before bytes behind (e ∙ i.air) in
          cut-kept c.front c.packet c.rest c.whole before bytes behind c.before_is c.bytes_are c.behind_is
