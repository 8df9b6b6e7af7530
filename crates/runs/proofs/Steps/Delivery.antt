-- Each delivery keeps the invariant, whatever its cell, and gives on bytes what it gives over messages (`delivers`): the checks before 12 pass, the cell reads
-- back as the packet that waits there, the step is the machine's and is accepted, and the pool is left holding what then waits. By the one walk.
-- In order: packets counted; a delivery refused; a packet at its cell, and its step; its packets don't fit, or the invariant after it.
-- Assumes nothing.
use Rattle.std.specs.Prelude.{ℕ, suc, ◌+◌, ◌-◌, ◌≡◌, refl, Bool, true, false, cond, List, [], ◌∷◌, ◌++◌, map, leb, length, take, drop}
use Rattle.std.proofs.Common.{sym, ap, ◌∙◌, inl, inr, append-nil, arith, length-append, leb-true, ne_eqb}
use Rattle.std.proofs.Math.Path.{subst}
use Rattle.std.proofs.lemmas.List.{map-append}
use Rattle.std.proofs.Math.Option.{some}
use Rattle.base.specs.Limits.{pool_cells}
use Rattle.table.specs.Stream.{Accepted}
use Rattle.costs.specs.declared.ValueOrder.{ValueOrder}
use Rattle.costs.specs.Instance.{instance_of}
use Rattle.costs.specs.Laws.Tried.{problem_by}
use Rattle.costs.specs.Laws.Stream.{sound_of}
use Rattle.costs.specs.Gather.{sizes_in}
use Rattle.base.specs.Members.{In}
use Rattle.base.specs.Members.Laws.{in_more}
use Rattle.message.specs.Message.{Packet}
use Rattle.rules.specs.declared.Unit.{Unit as UnitState}
use Rattle.rules.specs.declared.Sending.{Sending}
use Rattle.rules.specs.Step as U
use Rattle.rules.specs.Step.{Written}
use Rattle.rules.specs.Send.{packets, packet_bytes}
use Rattle.rules.specs.Units.{place_of, step_on}
use Rattle.rules.specs.Laws.Assign.{Whenever}
use Rattle.rules.specs.Laws.Units.{Leaves, step_in_range}
use Rattle.protocol.specs.Machine as M
use Rattle.protocol.specs.Machine.{to, Network}
use Rattle.protocol.specs.Walk.{deliver-stopped, deliver_none, deliver_at}
use Rattle.protocol.specs.Theorem.{Kept}
use Rattle.protocol.proofs.Theorem.{deliver-kept}
use Rattle.protocol.specs.Simulation.Relations.{ReadAll, read_append}
use Rattle.protocol.proofs.Simulation.Units as X
use Rattle.protocol.specs.Simulation.Units.{Simulated, StepsTo}
use Rattle.protocol.proofs.Simulation.Units.{read_length}
use Rattle.protocol.proofs.Simulation.Table.{laws, views}
use Rattle.runs.specs.Pool.{cell_of, pool_after}
use Rattle.runs.specs.Pool.Stored.{AllSized, StandsAt, none_at, no_room, some_room, cell_bytes, put-stored}
use Rattle.runs.specs.Run as R
use Rattle.runs.specs.Run.{History, DeliveryOf, cells, stopped, hand_over}
use Rattle.runs.specs.Calls as C
use Rattle.runs.specs.Calls.{Result, refused_delivery, deliver_of}
use Rattle.runs.specs.Demand3.{Shed, shed_of, delivery, times, Honest}
use Rattle.runs.proofs.CodeLaws.{check_network, check_cell, deliver-refused}
use Rattle.runs.specs.Proof.Walk.{hand_cases, deliver_cases}
use Rattle.runs.specs.Proof.Follow as F
use Rattle.runs.proofs.Steps.Stands.{sized, over_refuses, running_passes, left_by, here_is, waits, cell_leaves, stands_after}
use Rattle.runs.proofs.Steps.Invariant.{Invariant, same_stop, cut, step-accepted}

-- ---- packets counted

times_append : (t : Packet → Bool) (a b : List Packet) → times t (a ++ b) ≡ times t a + times t b
unfolding times
times_append t [] b = omega arith
times_append t (p ∷ a) b = omega (arith, times_append t a b)

times_more : (t : Packet → Bool) (p : Packet) (a : List Packet) → times t (p ∷ a) ≡ cond (t p) 1 0 + times t a
unfolding times
times_more t p a = refl

times_none : (t : Packet → Bool) → times t [] ≡ 0
unfolding times
times_none t = refl

module _ (order : ValueOrder) (s : List ℕ) (ok : Accepted s) (S : Shed) (H : History) (A : Network) (i : Invariant order s ok S H A) (c : ℕ) where
  -- what a delivery gives: over messages d, on bytes r
  abbrev pub Delivers : DeliveryOf (List Packet) → Result → Type 0
  Delivers d r = F.Delivers (delivery order s) cells order (instance_of s) (M.deliver (problem_by order (instance_of s)) pool_cells) Honest (Invariant order s ok) S H A c d r.answer.refusal (shed_of r)

  -- ---- a delivery refused

  refuses : (x : ℕ) → Honest (stopped H) (suc x) → M.deliver (problem_by order (instance_of s)) pool_cells A c ≡ A → deliver_of order S.network s S.pool c ≡ refused_delivery S.network S.pool (suc x)
      → Delivers (R.refused_by (suc x)) (deliver_of order S.network s S.pool c)
  refuses x h stays e =
      subst (Delivers (R.refused_by (suc x))) (sym e)
      (record {
        number = refl;
        honest = h;
        bytes = ap (λ t. map packet_bytes H.handed ++ cond t (cell_of S.pool c ∷ []) []) (ne_eqb (suc x) 0 (λ q. omega (arith, q))) ∙ append-nil (map packet_bytes H.handed);
        next = subst (Invariant order s ok S H) (sym stays) i;
      })

  machine_stop : (A.units 0).stopped ≡ stopped H
  machine_stop = sym (same_stop order s ok S H A i)

  -- once unit 1 has stopped it is 12
  pub after_stop : stopped H ≡ true → deliver_of order S.network s S.pool c ≡ refused_delivery S.network S.pool 12
  after_stop st = deliver-refused order S.network s S.pool c 11 (check_network order S.network s S.pool c 12 (over_refuses order s ok S H A.units i.stands st) (λ z. omega (arith, z)))

  -- ---- the packet p at the cell, and its step

  module _ (st : stopped H ≡ false) (p : Packet) (e : cells.at H.waiting c ≡ some p) where
    abbrev b : List Packet
    b = take c H.waiting

    abbrev a : List Packet
    a = drop (suc c) H.waiting

    stand : StandsAt H.waiting c p
    stand = here_is order s ok S H A.units i.stands st p c e

    z : AllSized H.waiting
    z = sized order s ok H.waiting i.stands.sendable

    -- the machine's pool, cut at the same cell
    at : X.CutAt order (instance_of s) b p a A.pool
    at = cut order s ok S H A i st b p a stand.whole

    stepped : Simulated order (instance_of s) H.units H.written A.units (place_of p) (M.step (problem_by order (instance_of s)) (A.units (to at.message)) at.message) (step_on order (instance_of s) H.units p)
    unfolding at
    stepped = step-accepted order s ok S H A i st b p a stand.whole

    -- ---- it is accepted, with u, o and ws

    module _ (u : UnitState) (o : Sending) (ws : List Written) (gives : step_on order (instance_of s) H.units p ≡ U.accepted u o ws) where
      abbrev ps : List Packet
      ps = packets (instance_of s).n (place_of p) o

      x : StepsTo order (instance_of s) H.units H.written A.units (place_of p) (M.step (problem_by order (instance_of s)) (A.units (to at.message)) at.message) u o ws
      x = subst (Simulated order (instance_of s) H.units H.written A.units (place_of p) (M.step (problem_by order (instance_of s)) (A.units (to at.message)) at.message)) gives stepped

      l : Leaves order (instance_of s) (sizes_in s) H.units (place_of p) u o ws
      l =
          subst (Whenever (Leaves order (instance_of s) (sizes_in s) H.units (place_of p))) gives
          (step_in_range order (instance_of s) (sizes_in s) (sound_of s ok).n16 (views order s ok) H.units i.stands.core.units p (i.stands.sendable p (waits order s ok S H A.units i.stands st p c e)))

      abbrev next-machine : Network
      next-machine = record { units = M.put A.units (to at.message) x.agent; pool = (at.before ++ at.behind) ++ x.sent; accepted = suc A.accepted }

      read_on : ReadAll order (instance_of s) ((b ++ a) ++ ps) ((at.before ++ at.behind) ++ x.sent)
      read_on = read_append order (instance_of s) (b ++ a) ps (at.before ++ at.behind) x.sent (read_append order (instance_of s) b a at.before at.behind at.reads_before at.reads_behind) x.reads

      -- the machine asks the same of its room
      machine_is : (t : Bool) → leb (length ((b ++ a) ++ ps)) pool_cells ≡ t → M.deliver (problem_by order (instance_of s)) pool_cells A c ≡ M.fits t next-machine A
      machine_is t q =
          deliver_at (problem_by order (instance_of s)) pool_cells A c (machine_stop ∙ st) at.before at.message at.behind at.whole (at.many ∙ stand.many) x.agent x.sent x.steps
          ∙ ap (λ y. M.fits y next-machine A) (ap (λ n. leb n pool_cells) (sym (read_length order (instance_of s) ((b ++ a) ++ ps) ((at.before ++ at.behind) ++ x.sent) read_on)) ∙ q)

      abbrev stored_after : Result
      stored_after = left_by order s ok S H A.units i.stands st p u (S.network.used - 1) ps ws (pool_after S.network.used c ps S.pool)

      bytes_are : (t : Bool) → leb (length ((b ++ a) ++ ps)) pool_cells ≡ t → deliver_of order S.network s S.pool c ≡ cond t stored_after (C.refused_delivery S.network S.pool 14)
      bytes_are t q = cell_leaves order s ok S H A.units i.stands st p c e u o ws gives t q

      -- what it sends doesn't fit
      too_many : leb (length ((b ++ a) ++ ps)) pool_cells ≡ false → Delivers (R.refused_by 14) (deliver_of order S.network s S.pool c)
      too_many q = refuses 13 (inr (inl refl)) (machine_is false q) (bytes_are false q)

      -- or all goes on
      module _ (q : leb (length ((b ++ a) ++ ps)) pool_cells ≡ true) where
        kept : Kept (problem_by order (instance_of s)) next-machine
        kept = subst (Kept (problem_by order (instance_of s))) (machine_is true q) (deliver-kept (problem_by order (instance_of s)) (laws order s ok) (sound_of s ok).n1 pool_cells A c i.kept)

        count-accepted : length (H.handed ++ (p ∷ [])) ≡ suc A.accepted
        count-accepted = omega (arith, length-append H.handed (p ∷ []), i.accepted)

        invariant : Invariant order s ok (shed_of stored_after) (R.history_after H p u ps ws ((b ++ a) ++ ps)) next-machine
        invariant =
            record {
              stands =
                  stands_after order s ok S H A.units i.stands p at.message at.reads (M.step (problem_by order (instance_of s)) (A.units (to at.message)) at.message) u o ws x l kept.network.safe (b ++ a)
                  (λ y j. i.stands.sendable y (subst (In y) (sym stand.whole) (in_more b p a j))) (S.network.used - 1 + length ps) (pool_after S.network.used c ps S.pool)
                  (put-stored H.waiting S.network.used S.pool i.stands.stored z c p e ps (sized order s ok ps l.sent) (leb-true _ pool_cells q)) (leb-true _ pool_cells q);
              kept = kept;
              reads = read_on;
              accepted = count-accepted;
              balanced = λ t.
                  omega (
                    arith,
                    i.balanced t,
                    ap (times t) stand.whole,
                    times_append t b (p ∷ a),
                    times_more t p a,
                    times_append t (b ++ a) ps,
                    times_append t b a,
                    times_append t H.sent ps,
                    times_append t H.handed (p ∷ []),
                    times_more t p [],
                    times_none t,
                  );
            }

        goes : Delivers (R.delivered (R.history_after H p u ps ws ((b ++ a) ++ ps))) (deliver_of order S.network s S.pool c)
        goes =
            subst (Delivers (R.delivered (R.history_after H p u ps ws ((b ++ a) ++ ps)))) (sym (bytes_are true q))
            (record {
              number = refl;
              honest = tt;
              bytes = ap (λ y. map packet_bytes H.handed ++ (y ∷ [])) (cell_bytes H.waiting S.network.used S.pool i.stands.stored z c p e) ∙ sym (map-append packet_bytes H.handed (p ∷ []));
              next = subst (Invariant order s ok (shed_of stored_after) (R.history_after H p u ps ws ((b ++ a) ++ ps))) (sym (machine_is true q)) invariant;
            })

  -- ---- any cell

  pub delivers : Delivers (hand_over order (instance_of s) H c) (deliver_of order S.network s S.pool c)
  unfolding Accepted
  delivers =
      deliver_cases order (instance_of s) H (λ d. Delivers d (deliver_of order S.network s S.pool c)) cells c
      (λ st. refuses 11 (inl (refl, st)) (deliver-stopped (problem_by order (instance_of s)) pool_cells A c (machine_stop ∙ st)) (after_stop st))
      (λ st e.
      let le = none_at H.waiting c e in
      refuses 14 (inr (inr refl)) (deliver_none (problem_by order (instance_of s)) pool_cells A c (machine_stop ∙ st) (omega (arith, le, read_length order (instance_of s) H.waiting A.pool i.reads)))
      (deliver-refused order S.network s S.pool c 14 (check_cell order S.network s S.pool c (running_passes order s ok S H A.units i.stands st) (omega (arith, le, i.stands.stored.count)))))
      (λ st p e.
      hand_cases order (instance_of s) H (λ d. Delivers d (deliver_of order S.network s S.pool c)) p (cells.put (cells.without H.waiting c))
      (λ r gives. absurd (subst (Simulated order (instance_of s) H.units H.written A.units (place_of p) (M.step (problem_by order (instance_of s)) (A.units (to (at st p e).message)) (at st p e).message)) gives (stepped st p e)))
      (λ u o ws gives. (
        (λ f. too_many st p e u o ws gives (no_room _ _ f)),
        (λ ms f.
            let q = some_room _ _ ms f in
            subst (λ v. Delivers (R.delivered (R.history_after H p u (packets (instance_of s).n (place_of p) o) ws v)) (deliver_of order S.network s S.pool c)) q.1 (goes st p e u o ws gives q.0)),
      )))
