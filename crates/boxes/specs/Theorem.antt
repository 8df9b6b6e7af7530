-- WHAT THE BOXES PROMISE, proved (`promised`): the statement is Promise.antt's. Every list of events keeps the invariant, and each part is read off it and the
-- machine's theorem. So every list goes on to one after which all boxes have stopped (`all_stop`); any two that have stopped, in one run or in two, hold one
-- total and one assignment (`one_lotting`), and in ascending order it is the bench's (`bound_lotting`, `bench_lotting`).
-- In order: members of the air; one point of a run; every list of events; its end; two boxes; the bench.
-- Assumes nothing.
use Prim.Native.Nat.{ℕ, zero, suc, ◌+◌, ◌*◌, ◌-◌, ◌≤◌, ◌<◌}
use Rattle.std.specs.Prelude.{◌≡◌, ◌⊎◌, Bool, true, false, take, drop}
use Rattle.std.proofs.Math.Path.{refl, subst}
use Rattle.std.proofs.Common.{sym, ap, ◌∙◌, inl, inr, arith, take-append-drop}
use mathlib.Core.List.{List, [], ◌∷◌, ◌++◌, map, map-append, append-nil, append_assoc}
use Rattle.base.specs.Every.{every}
use Rattle.base.specs.Every.Laws.{every_by}
use Rattle.base.specs.Members.{In, here}
use Rattle.base.specs.Members.Laws.{in-cases, not-in-nil, in_right}
use Rattle.table.specs.Stream.{units_of, Accepted}
use Rattle.costs.specs.declared.ValueOrder.{ValueOrder}
use Rattle.costs.specs.declared.ValueOrder.TheVariants.{Ascending}
use Rattle.costs.specs.Instance.{Instance, instance_of}
use Rattle.costs.specs.Bounds.{N}
use Rattle.costs.specs.Least.{LeastFirst, Padded}
use Rattle.costs.specs.Least.Laws.{least_unique, first_unique}
use Rattle.costs.specs.Laws.Tried.{problem_by}
use Rattle.costs.specs.Laws.Stream.{sound_of}
use Rattle.costs.specs.Gather.{sizes_in}
use Rattle.search.specs.Search.{search_refusal, search_of, branch_and_bound_of}
use Rattle.search.specs.Laws.{searched, bounded_is_least-first, bounded_is_search}
use Rattle.message.specs.Message.{Packet}
use Rattle.rules.specs.Step as U
use Rattle.rules.specs.Step.{Decision}
use Rattle.rules.specs.Send.{packet_bytes}
use Rattle.rules.specs.Units.{unit_at, place_of, step_on}
use Rattle.rules.specs.Laws.Units.{place_in, best_padded}
use Rattle.protocol.specs.Machine.{Msg, to}
use Rattle.protocol.specs.Tests.{true_not_false}
use Rattle.protocol.specs.Air.Run.{OnAir}
use Rattle.protocol.proofs.Air.Theorem.{kept_on_air, most_on_air_le}
use Rattle.protocol.proofs.Simulation.Units.{read_to, read_as}
use Rattle.protocol.specs.Simulation.First.{reports_first}
use Rattle.protocol.proofs.Simulation.Table.{laws}
use Rattle.boxes.specs.Boxes.{number_of, Boxes, boxes_after, receiver_in, answer_to, hear_at, hear, hear_all, all_made, boxes}
use Rattle.boxes.specs.Promise.{stopped_at, all_stopped, most_accepted, Promised}
use Rattle.boxes.specs.Invariant.{CutMap, cut_map, Invariant, answer_is, place_is, Heard, heard, hear-kept}
use Rattle.boxes.specs.Making.{make-accepted, made_kept}

-- ---- members of the air

-- where a packet stands in the air
position : {A : Type 0} (l : List A) (x : A) → In x l → (c : ℕ) × (behind : List A) × (drop c l ≡ x ∷ behind)
position [] x i = absurd (not-in-nil i)
position (y ∷ l) x i = go (in-cases i) (λ j. position l x j)
  where
    go : (x ≡ y) ⊎ In x l → (In x l → (c : ℕ) × (behind : List _) × (drop c l ≡ x ∷ behind)) → (c : ℕ) × (behind : List _) × (drop c (y ∷ l) ≡ x ∷ behind)
    go (inl e) ih = (0, l, ap (λ z. z ∷ l) (sym e))
    go (inr j) ih = let q = ih j in (suc q.0, q.1, q.2)

-- a test that doesn't hold of all below n fails somewhere
one_fails : (p : ℕ → Bool) (n : ℕ) → every p n ≡ false → (k : ℕ) × (k < n) × (p k ≡ false)
one_fails p zero e = absurd (true_not_false refl e)
one_fails p (suc n) e = go (every p n) refl (λ f. one_fails p n f)
  where
    last : every p n ≡ true → p n ≡ false
    last f = rw f at e

    go : (t : Bool) → every p n ≡ t → (every p n ≡ false → (k : ℕ) × (k < n) × (p k ≡ false)) → (k : ℕ) × (k < suc n) × (p k ≡ false)
    go true f ih = (n, omega arith, last f)
    go false f ih = let q = ih f in (q.0, omega (arith, q.1), q.2)

-- ---- one point of a run

module _ (order : ValueOrder) (s : List ℕ) (ok : Accepted s) (B : Boxes) (i : Invariant order s ok B) where
  on_air : OnAir (problem_by order (instance_of s)) i.machine
  on_air = kept_on_air (problem_by order (instance_of s)) (laws order s ok) (sound_of s ok).n1 i.machine i.kept

  stop_is : (k : ℕ) → k < (instance_of s).n → stopped_at B k ≡ (i.machine.units k).stopped
  stop_is k lt = (i.matches.units k lt).common.stopped_is

  -- ---- what a box answers to a packet in the air

  abbrev Answered : List ℕ → Type 0
  Answered bytes = (number_of (answer_to order s B bytes) ≡ 0) ⊎ ((number_of (answer_to order s B bytes) ≡ 12) × (stopped_at B (receiver_in bytes) ≡ true))

  module _ (b : List Packet) (p : Packet) (a : List Packet) (e : i.packets ≡ b ++ (p ∷ a)) where
    numbered : Answered (packet_bytes p)
    numbered = rw (answer_is order s ok B i b p a e, place_is order s ok B i b p a e) (go (step_on order (instance_of s) B.units p) (heard order s ok B i b p a e))
      where
        go : (d : Decision) → Heard order s ok B i b p a e d → (number_of d ≡ 0) ⊎ ((number_of d ≡ 12) × (stopped_at B (place_of p) ≡ true))
        go (U.refused r) h = inr h
        go (U.accepted u o ws) h = inl refl

    accepted_by : stopped_at B (place_of p) ≡ false → number_of (answer_to order s B (packet_bytes p)) ≡ 0
    accepted_by off = go numbered
      where
        go : Answered (packet_bytes p) → number_of (answer_to order s B (packet_bytes p)) ≡ 0
        go (inl z) = z
        go (inr z) = absurd (true_not_false z.1 (ap (stopped_at B) (place_is order s ok B i b p a e) ∙ off))

    in_n : place_of p < (instance_of s).n
    in_n = (place_in (instance_of s).n (sizes_in s) p (i.sendable p (subst (In p) (sym e) (in_right b (here refl))))).0

    -- and is counted
    counted : number_of (answer_to order s B (packet_bytes p)) ≡ 0 → (k : ℕ) (rest : List (List ℕ)) → (boxes_after (units_of s) B k rest (suc B.accepted) (answer_to order s B (packet_bytes p))).accepted ≡ suc B.accepted
    counted z k rest = subst (λ (d : Decision). number_of d ≡ 0 → (boxes_after (units_of s) B k rest (suc B.accepted) d).accepted ≡ suc B.accepted) (sym (answer_is order s ok B i b p a e)) (go (step_on order (instance_of s) B.units p) (heard order s ok B i b p a e)) z
      where
        go : (d : Decision) → Heard order s ok B i b p a e d → number_of d ≡ 0 → (boxes_after (units_of s) B k rest (suc B.accepted) d).accepted ≡ suc B.accepted
        go (U.refused r) h z = absurd (omega (arith, h.0, z))
        go (U.accepted u o ws) h z = refl

    is_in_air : In (packet_bytes p) B.air
    is_in_air = subst (In (packet_bytes p)) (sym (i.air ∙ ap (map packet_bytes) e ∙ map-append packet_bytes b (p ∷ a))) (in_right (map packet_bytes b) (here refl))

  -- bytes in the air are a packet's
  packet_at : (c : ℕ) (bytes : List ℕ) (behind : List (List ℕ)) → drop c B.air ≡ bytes ∷ behind → CutMap i.packets (take c B.air) bytes behind
  packet_at c bytes behind e = cut_map i.packets (take c B.air) bytes behind (ap (λ l. take c B.air ++ l) (sym e) ∙ take-append-drop c B.air ∙ i.air)

  answered : (bytes : List ℕ) → In bytes B.air → Answered bytes
  answered bytes j =
      let q = position B.air bytes j in
      let c = packet_at q.0 bytes q.1 q.2 in
      subst Answered (sym c.bytes_are) (numbered c.front c.packet c.rest c.whole)

  -- a packet that is accepted is counted
  cut-counted : (b : List Packet) (p : Packet) (a : List Packet) → i.packets ≡ b ++ (p ∷ a) → (bytes : List ℕ) → bytes ≡ packet_bytes p → number_of (answer_to order s B bytes) ≡ 0 → (rest : List (List ℕ))
      → (boxes_after (units_of s) B (receiver_in bytes) rest (suc B.accepted) (answer_to order s B bytes)).accepted ≡ suc B.accepted
  cut-counted b p a e bytes y z rest =
      subst (λ x. number_of (answer_to order s B x) ≡ 0 → (boxes_after (units_of s) B (receiver_in x) rest (suc B.accepted) (answer_to order s B x)).accepted ≡ suc B.accepted) (sym y)
      (λ q. counted b p a e q (receiver_in (packet_bytes p)) rest) z

  hear-counted : (bytes : List ℕ) → In bytes B.air → number_of (answer_to order s B bytes) ≡ 0 → (c : ℕ) × ((hear order s B c).accepted ≡ suc B.accepted)
  unfolding hear
  hear-counted bytes j z =
      let q = position B.air bytes j in
      let c = packet_at q.0 bytes q.1 q.2 in (
        q.0,
        subst (λ l. (hear_at order s B (take q.0 B.air) l).accepted ≡ suc B.accepted) (sym q.2) (cut-counted c.front c.packet c.rest c.whole bytes c.bytes_are z (take q.0 B.air ++ q.1)),
      )

  -- the box of a packet has stopped just where the machine's unit has
  runs : (p : Packet) (m : Msg) → place_of p ≡ to m → place_of p < (instance_of s).n → (i.machine.units (to m)).stopped ≡ false → stopped_at B (place_of p) ≡ false
  runs p m e lt off = stop_is (place_of p) lt ∙ subst (λ k. (i.machine.units k).stopped ≡ false) (sym e) off

  -- while a box runs, a packet is in the air that its box accepts
  waiting : all_stopped (instance_of s).n B ≡ false → (bytes : List ℕ) × In bytes B.air × (number_of (answer_to order s B bytes) ≡ 0)
  waiting off =
      let q = one_fails (stopped_at B) (instance_of s).n off in
      let w = on_air.waits q.0 q.1 (sym (stop_is q.0 q.1) ∙ q.2) in
      let r = read_as order (instance_of s) i.packets i.machine.pool w.0 i.reads w.1.0 in
      let t = read_to order (instance_of s) r.packet w.0 r.reads in
      (packet_bytes r.packet, is_in_air r.front r.packet r.rest r.whole, accepted_by r.front r.packet r.rest r.whole (runs r.packet w.0 t (in_n r.front r.packet r.rest r.whole) w.1.1))

  lotting_at : (k : ℕ) → k < (instance_of s).n → stopped_at B k ≡ true → LeastFirst order (instance_of s) (unit_at B.units k).bound (unit_at B.units k).best × Padded (instance_of s).n (unit_at B.units k).best
  lotting_at k lt st =
      let z : (i.machine.units k).stopped ≡ true = sym (stop_is k lt) ∙ st in (
        reports_first order (instance_of s) (sound_of s ok) k (unit_at B.units k) (i.machine.units k) (i.matches.units k lt) (on_air.report k lt z) (on_air.least k lt z) (on_air.first k lt z),
        best_padded order (instance_of s) (sizes_in s) B.units i.range k lt,
      )

-- ---- every list of events

-- As 01 counts deliveries: (3n - 1) × N, and the n - 1 stops.
pub most-accepted : (I : Instance) → most_accepted I ≤ (3 * I.n - 1) * N I + (I.n - 1)
most-accepted I = most_on_air_le (problem_by Ascending I)

module _ (order : ValueOrder) (s : List ℕ) (ok : Accepted s) where
  all_kept : (cs : List ℕ) (B : Boxes) → Invariant order s ok B → Invariant order s ok (hear_all order s B cs)
  unfolding hear_all
  all_kept [] B i = i
  all_kept (c ∷ cs) B i = all_kept cs (hear order s B c) (hear-kept order s ok B i c)

  kept : (events : List ℕ) → Invariant order s ok (boxes order s events)
  kept events = all_kept events (all_made order s) (made_kept order s ok)

  -- WHAT THE BOXES PROMISE
  pub promised : (events : List ℕ) → Promised order s events
  unfolding instance_of
  promised events =
      record {
        made = make-accepted order s ok;
        distinct = i.matches.distinct;
        bounded = omega (arith, i.count, a.bounded);
        ends = λ e. every_by (stopped_at B) (units_of s) (λ k lt. stop_is order s ok B i k lt ∙ a.ends (sym i.count ∙ e) k lt);
        honest = answered order s ok B i;
        waits = waiting order s ok B i;
        lotting = lotting_at order s ok B i;
      }
    where
      B : Boxes
      B = boxes order s events

      i : Invariant order s ok B
      i = kept events

      a : OnAir (problem_by order (instance_of s)) i.machine
      a = on_air order s ok B i

  -- ---- its end

  -- every list of events goes on to one after which all boxes have stopped
  abbrev AllStop : List ℕ → Type 0
  AllStop events = (more : List ℕ) × (all_stopped (units_of s) (boxes order s (events ++ more)) ≡ true)

  hear_more : (B : Boxes) (cs : List ℕ) (c : ℕ) → hear_all order s B (cs ++ (c ∷ [])) ≡ hear order s (hear_all order s B cs) c
  unfolding hear_all
  hear_more B [] c = refl
  hear_more B (d ∷ cs) c = hear_more (hear order s B d) cs c

  pub all_stop : (events : List ℕ) → (more : List ℕ) × (all_stopped (units_of s) (boxes order s (events ++ more)) ≡ true)
  all_stop events = go (most_accepted (instance_of s)) events (omega arith)
    where
      ended : (cs : List ℕ) → all_stopped (units_of s) (boxes order s cs) ≡ true → AllStop cs
      ended cs e = ([], subst (λ l. all_stopped (units_of s) (boxes order s l) ≡ true) (sym (append-nil cs)) e)

      more : (cs : List ℕ) → ((c : ℕ) → (boxes order s (cs ++ (c ∷ []))).accepted ≡ suc (boxes order s cs).accepted → AllStop (cs ++ (c ∷ []))) → (t : Bool) → all_stopped (units_of s) (boxes order s cs) ≡ t → AllStop cs
      more cs ih true e = ended cs e
      more cs ih false e =
          let w = (promised cs).waits e in
          let h = hear-counted order s ok (boxes order s cs) (kept cs) w.0 w.1 w.2 in
          let q = ih h.0 (ap (λ (B : Boxes). B.accepted) (hear_more (all_made order s) cs h.0) ∙ h.1) in
          (h.0 ∷ q.0, subst (λ l. all_stopped (units_of s) (boxes order s l) ≡ true) (append_assoc cs (h.0 ∷ []) q.0) q.1)

      go : (left : ℕ) (cs : List ℕ) → most_accepted (instance_of s) ≤ (boxes order s cs).accepted + left → AllStop cs
      go zero cs h = ended cs ((promised cs).ends (omega (arith, h, (promised cs).bounded)))
      go (suc left) cs h = more cs (λ c a. go left (cs ++ (c ∷ [])) (omega (arith, h, a))) (all_stopped (units_of s) (boxes order s cs)) refl

  -- ---- two boxes that have stopped, in one run or in two

  pub one_lotting : (events events' : List ℕ) (j k : ℕ) → j < units_of s → k < units_of s → stopped_at (boxes order s events) j ≡ true → stopped_at (boxes order s events') k ≡ true
      → ((unit_at (boxes order s events).units j).bound ≡ (unit_at (boxes order s events').units k).bound) × ((unit_at (boxes order s events).units j).best ≡ (unit_at (boxes order s events').units k).best)
  unfolding instance_of
  one_lotting events events' j k lj lk sj sk =
      let p = (promised events).lotting j lj sj in
      let q = (promised events').lotting k lk sk in
      (least_unique order order (instance_of s) _ _ _ _ p.0 q.0, first_unique order (instance_of s) _ _ _ _ p.0 q.0 p.1 q.1)

-- ---- the bench

-- Where values are tried ascending, every box that has stopped holds what `search::branch_and_bound` gives of the table,
pub bound_lotting : (s : List ℕ) → Accepted s → (events : List ℕ) (k : ℕ) → k < units_of s → stopped_at (boxes Ascending s events) k ≡ true
    → branch_and_bound_of s ≡ record { refusal = 0; total = (unit_at (boxes Ascending s events).units k).bound; values = (unit_at (boxes Ascending s events).units k).best }
unfolding instance_of
bound_lotting s ok events k lt st =
    let p = (promised Ascending s ok events).lotting k lt st in
    bounded_is_least-first s ok _ _ p.0 p.1

-- and `search::exhaustive`, where it takes the table.
pub bench_lotting : (s : List ℕ) → search_refusal s ≡ 0 → (events : List ℕ) (k : ℕ) → k < units_of s → stopped_at (boxes Ascending s events) k ≡ true
    → search_of s ≡ record { refusal = 0; total = (unit_at (boxes Ascending s events).units k).bound; values = (unit_at (boxes Ascending s events).units k).best }
bench_lotting s h events k lt st = sym (bounded_is_search s h) ∙ bound_lotting s (searched s h).0 events k lt st
