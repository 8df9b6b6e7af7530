-- THE INVARIANT of a run with echoes, on bytes, over messages and in the machine at once. Making gives it (`make-traced`) and each event keeps it, whatever its
-- cell or packet, if what is echoed was sent (`hears`): every packet that was ever sent can be written, and reads as a message that the machine has sent.
-- In order: the invariant; a packet handed over, from its cell or heard again; an event; making.
-- Assumes nothing.
use Rattle.std.specs.Prelude.{ℕ, suc, ◌+◌, ◌-◌, ◌≤◌, ◌≡◌, refl, ◌⊎◌, Bool, true, false, cond, List, [], ◌∷◌, ◌++◌, map, leb, eqb, length, take, drop}
use Rattle.std.proofs.Common.{sym, ap, ◌∙◌, subst, inl, inr, append-nil, arith, leb-true, ne_eqb}
use Rattle.std.proofs.lemmas.List.{map-append}
use Rattle.std.proofs.Math.Option.{some}
use Rattle.base.specs.Limits.{pool_cells}
use Rattle.base.specs.Members.{In, here, Every}
use Rattle.base.specs.Members.Laws.{in_left, in_right, in_more, every_nil, every_cons, every_append}
use Rattle.table.specs.Stream.{Accepted}
use Rattle.costs.specs.declared.ValueOrder.{ValueOrder}
use Rattle.costs.specs.Instance.{instance_of}
use Rattle.costs.specs.Laws.Tried.{problem_by}
use Rattle.costs.specs.Laws.Stream.{sound_of}
use Rattle.costs.specs.Gather.{sizes_in}
use Rattle.message.specs.Message.{Packet}
use Rattle.rules.specs.declared.Unit.{Unit as UnitState}
use Rattle.rules.specs.declared.Sending.{Sending}
use Rattle.rules.specs.Step as U
use Rattle.rules.specs.Step.{Written}
use Rattle.rules.specs.Send.{packets, packet_bytes}
use Rattle.rules.specs.Units.{place_of, step_on}
use Rattle.rules.specs.Laws.Packets.{Sendable}
use Rattle.rules.specs.Laws.Assign.{Whenever}
use Rattle.rules.specs.Laws.Units.{Leaves, step_in_range}
use Rattle.protocol.specs.Machine as M
use Rattle.protocol.specs.Machine.{Msg, to}
use Rattle.protocol.specs.Echo.Events as E
use Rattle.protocol.specs.Echo.Events.{Trace, handed_over}
use Rattle.protocol.specs.Echo.Run.{Beside, Kept}
use Rattle.protocol.proofs.Echo.Run.{beside_taken, beside_heard, handed_over_kept, start-kept}
use Rattle.protocol.proofs.Echo.Theorem.{kept-heard-twice}
use Rattle.protocol.proofs.Echo.Packets.{read_in}
use Rattle.protocol.specs.Simulation.Relations.{Reads, ReadAll, read_append}
use Rattle.protocol.proofs.Simulation.Units as X
use Rattle.protocol.specs.Simulation.Units.{Simulated, StepsTo}
use Rattle.protocol.proofs.Simulation.Units.{read_cut, step_simulated}
use Rattle.protocol.proofs.Simulation.Table.{stream-free, laws, views}
use Rattle.runs.specs.Pool.{pool_after, pool_with}
use Rattle.runs.specs.Pool.Stored.{AllSized, StandsAt, Stored, none_at, no_room, some_room, cell_bytes, put-stored, added_stored}
use Rattle.runs.specs.Run as R
use Rattle.runs.specs.Run.{History, DeliveryOf, cells, stopped, onward}
use Rattle.runs.specs.Calls as C
use Rattle.runs.specs.Calls.{Result, refused_delivery, deliver_of, echo_of}
use Rattle.runs.specs.Demand3.{Shed, shed_of, shed_made, Made}
use Rattle.runs.proofs.CodeLaws.{check_network, check_cell, deliver-refused, echo_refused}
use Rattle.runs.specs.Proof.Walk.{hand_cases, deliver_cases}
use Rattle.runs.specs.Proof.Follow.{number_of}
use Rattle.runs.proofs.Steps.Stands.{Stands, sized, over_refuses, running_passes, echo_leaves, here_is, waits, cell_leaves, stands_after}
use Rattle.runs.proofs.Steps.Making.{accepted-table, making_gives, start_stands}
use Rattle.runs.specs.Echo.{Event, cell, echo, hear, result_of, bytes_at, SentBefore, HonestTo}

module _ (order : ValueOrder) (s : List ℕ) (ok : Accepted s) where
  pub record Traced (S : Shed) (H : History) : Type 0 where
    pub trace : Trace
    pub stands : Stands order s ok S H trace.network.units
    pub kept : Kept (problem_by order (instance_of s)) trace
    -- what waits, what was sent and what was handed over read as the machine's
    pub reads : ReadAll order (instance_of s) H.waiting trace.network.pool
    pub reads-sent : ReadAll order (instance_of s) H.sent trace.sent
    pub reads-handed : ReadAll order (instance_of s) H.handed trace.handed
    -- what waits and what was handed over was sent, and can be written
    pub waiting_sent : Every (λ x. In x H.sent) H.waiting
    pub handed_sent : Every (λ x. In x H.sent) H.handed
    pub sendable : Every (Sendable (instance_of s).n (sizes_in s)) H.sent

  module _ (S : Shed) (H : History) (i : Traced S H) where
    same_stop : stopped H ≡ (i.trace.network.units 0).stopped
    same_stop = (i.stands.core.matches.units 0 (sound_of s ok).n1).common.stopped_is

    running : stopped H ≡ false → (k : ℕ) → (i.trace.network.units k).stopped ≡ false
    running st = (kept-heard-twice (problem_by order (instance_of s)) (laws order s ok) (sound_of s ok).n1 i.trace i.kept).running (sym same_stop ∙ st)

    -- ---- the packet p, which was sent, reads as m and is handed over

    module _ (st : stopped H ≡ false) (p : Packet) (was : In p H.sent) (m : Msg) (rd : Reads order (instance_of s) p m) (sent : In m i.trace.sent) where
      stepped : Simulated order (instance_of s) H.units H.written i.trace.network.units (place_of p) (M.step (problem_by order (instance_of s)) (i.trace.network.units (to m)) m) (step_on order (instance_of s) H.units p)
      stepped =
          step_simulated order (instance_of s) (sound_of s ok) (stream-free s) H.units H.written i.trace.network.units i.stands.core.matches i.kept.network.safe p m rd
          (i.kept.network.msgs m sent) (running st (to m))

      pub never-refused : (r : ℕ) → step_on order (instance_of s) H.units p ≡ U.refused r → ⊥
      never-refused r e = subst (Simulated order (instance_of s) H.units H.written i.trace.network.units (place_of p) (M.step (problem_by order (instance_of s)) (i.trace.network.units (to m)) m)) e stepped

      -- its step gave u, o and ws
      module _ (u : UnitState) (o : Sending) (ws : List Written) (gives : step_on order (instance_of s) H.units p ≡ U.accepted u o ws) where
        abbrev ps : List Packet
        ps = packets (instance_of s).n (place_of p) o

        x : StepsTo order (instance_of s) H.units H.written i.trace.network.units (place_of p) (M.step (problem_by order (instance_of s)) (i.trace.network.units (to m)) m) u o ws
        x = subst (Simulated order (instance_of s) H.units H.written i.trace.network.units (place_of p) (M.step (problem_by order (instance_of s)) (i.trace.network.units (to m)) m)) gives stepped

        l : Leaves order (instance_of s) (sizes_in s) H.units (place_of p) u o ws
        l = subst (Whenever (Leaves order (instance_of s) (sizes_in s) H.units (place_of p))) gives (step_in_range order (instance_of s) (sizes_in s) (sound_of s ok).n16 (views order s ok) H.units i.stands.core.units p (i.sendable p was))

        pub sends : Every (Sendable (instance_of s).n (sizes_in s)) ps
        sends = l.sent

        -- `rest` still waits, and reads as rest'
        pub traced-after : (rest : List Packet) (rest' : List Msg) → ReadAll order (instance_of s) rest rest' → Beside i.trace m rest' → Every (λ y. In y H.sent) rest → (used : ℕ) (pool : List ℕ)
            → Stored (rest ++ ps) used pool → length (rest ++ ps) ≤ pool_cells
            → Traced (record { network = C.network_after S.network p.message.receiver u used (length ws); pool = pool }) (R.history_after H p u ps ws (rest ++ ps))
        traced-after rest rest' rr beside sr used pool stored few =
            record {
              trace = handed_over i.trace m rest' x.agent x.sent;
              stands =
                  stands_after order s ok S H i.trace.network.units i.stands p m rd (M.step (problem_by order (instance_of s)) (i.trace.network.units (to m)) m) u o ws x l kept.network.safe rest (λ y j. i.sendable y (sr y j)) used pool stored few;
              kept = kept;
              reads = read_append order (instance_of s) rest ps rest' x.sent rr x.reads;
              reads-sent = read_append order (instance_of s) H.sent ps i.trace.sent x.sent i.reads-sent x.reads;
              reads-handed = read_append order (instance_of s) H.handed (p ∷ []) i.trace.handed (m ∷ []) i.reads-handed (rd, tt);
              waiting_sent = every_append _ rest ps (λ y j. in_left ps (sr y j)) (λ y j. in_right H.sent j);
              handed_sent = every_append _ H.handed (p ∷ []) (λ y j. in_left ps (i.handed_sent y j)) (every_cons _ p [] (in_left ps was) (every_nil _));
              sendable = every_append _ H.sent ps i.sendable l.sent;
            }
          where
            kept : Kept (problem_by order (instance_of s)) (handed_over i.trace m rest' x.agent x.sent)
            kept = handed_over_kept (problem_by order (instance_of s)) (laws order s ok) (sound_of s ok).n1 i.trace i.kept (sym same_stop ∙ st) m sent rest' beside x.agent x.sent x.steps

    -- ---- an event: over messages d, on bytes r

    pub record Hears (e : Event) (d : DeliveryOf (List Packet)) (r : Result) : Type 0 where
      pub number : r.answer.refusal ≡ number_of d
      pub honest : (number_of d ≡ 0) ⊎ HonestTo (stopped H) e (number_of d)
      pub bytes : map packet_bytes H.handed ++ cond (eqb r.answer.refusal 0) (bytes_at S e ∷ []) [] ≡ map packet_bytes (onward H d).handed
      pub next : Traced (shed_of r) (onward H d)

    refuses : (e : Event) (k : ℕ) → HonestTo (stopped H) e (suc k) → result_of order s S e ≡ refused_delivery S.network S.pool (suc k) → Hears e (R.refused_by (suc k)) (result_of order s S e)
    refuses e k h q =
        subst (Hears e (R.refused_by (suc k))) (sym q)
        (record {
          number = refl;
          honest = inr h;
          bytes = ap (λ t. map packet_bytes H.handed ++ cond t (bytes_at S e ∷ []) []) (ne_eqb (suc k) 0 (λ z. omega (arith, z))) ∙ append-nil (map packet_bytes H.handed);
          next = i;
        })

    -- a packet at its cell
    module _ (c : ℕ) (st : stopped H ≡ false) (p : Packet) (e : cells.at H.waiting c ≡ some p) where
      stand : StandsAt H.waiting c p
      stand = here_is order s ok S H i.trace.network.units i.stands st p c e

      was : In p H.sent
      was = i.waiting_sent p (waits order s ok S H i.trace.network.units i.stands st p c e)

      at : X.CutAt order (instance_of s) (take c H.waiting) p (drop (suc c) H.waiting) i.trace.network.pool
      at = read_cut order (instance_of s) (take c H.waiting) p (drop (suc c) H.waiting) i.trace.network.pool (subst (λ l. ReadAll order (instance_of s) l i.trace.network.pool) stand.whole i.reads)

      sent : In at.message i.trace.sent
      sent = i.kept.waiting_sent at.message (subst (In at.message) (sym at.whole) (in_right at.before (here refl)))

      z : AllSized H.waiting
      z = sized order s ok H.waiting i.stands.sendable

      from_cell : Hears (cell c) (R.by_decision (instance_of s) H p (cells.put (cells.without H.waiting c)) (step_on order (instance_of s) H.units p)) (deliver_of order S.network s S.pool c)
      from_cell =
          hand_cases order (instance_of s) H (λ d. Hears (cell c) d (deliver_of order S.network s S.pool c)) p (cells.put (cells.without H.waiting c))
          (λ r gives. absurd (never-refused st p was at.message at.reads sent r gives))
          (λ u o ws gives. (
            (λ f. refuses (cell c) 13 (inr (inl refl)) (cell_leaves order s ok S H i.trace.network.units i.stands st p c e u o ws gives false (no_room _ _ f))),
            (λ ms f. let q = some_room _ _ ms f in subst (λ v. Hears (cell c) (R.delivered (R.history_after H p u (packets (instance_of s).n (place_of p) o) ws v)) (deliver_of order S.network s S.pool c)) q.1 (goes u o ws gives q.0)),
          ))
        where
          goes : (u : UnitState) (o : Sending) (ws : List Written) → step_on order (instance_of s) H.units p ≡ U.accepted u o ws
              → leb (length (cells.without H.waiting c ++ packets (instance_of s).n (place_of p) o)) pool_cells ≡ true
              → Hears (cell c) (R.delivered (R.history_after H p u (packets (instance_of s).n (place_of p) o) ws (cells.without H.waiting c ++ packets (instance_of s).n (place_of p) o))) (deliver_of order S.network s S.pool c)
          goes u o ws gives q =
              subst (Hears (cell c) (R.delivered _)) (sym (cell_leaves order s ok S H i.trace.network.units i.stands st p c e u o ws gives true q))
              (record {
                number = refl;
                honest = inl refl;
                bytes = ap (λ y. map packet_bytes H.handed ++ (y ∷ [])) (cell_bytes H.waiting S.network.used S.pool i.stands.stored z c p e) ∙ sym (map-append packet_bytes H.handed (p ∷ []));
                next =
                    traced-after st p was at.message at.reads sent u o ws gives (cells.without H.waiting c) (at.before ++ at.behind)
                    (read_append order (instance_of s) (take c H.waiting) (drop (suc c) H.waiting) at.before at.behind at.reads_before at.reads_behind)
                    (beside_taken i.trace i.kept.waiting_sent at.before at.behind at.message at.whole)
                    (λ y j. i.waiting_sent y (subst (In y) (sym stand.whole) (in_more (take c H.waiting) p (drop (suc c) H.waiting) j))) (S.network.used - 1 + length (packets (instance_of s).n (place_of p) o))
                    (pool_after S.network.used c (packets (instance_of s).n (place_of p) o) S.pool)
                    (put-stored H.waiting S.network.used S.pool i.stands.stored z c p e (packets (instance_of s).n (place_of p) o) (sized order s ok (packets (instance_of s).n (place_of p) o) (sends st p was at.message at.reads sent u o ws gives)) (leb-true _ pool_cells q))
                    (leb-true _ pool_cells q);
              })

    -- one that was sent, heard again
    module _ (p : Packet) (was : In p H.sent) (st : stopped H ≡ false) where
      again : (m : Msg) × In m i.trace.sent × Reads order (instance_of s) p m
      again = read_in order (instance_of s) (sound_of s ok) p H.sent i.trace.sent i.reads-sent was

      from-air : Hears (echo p) (R.by_decision (instance_of s) H p (cells.put H.waiting) (step_on order (instance_of s) H.units p)) (echo_of order S.network s S.pool (packet_bytes p))
      from-air =
          hand_cases order (instance_of s) H (λ d. Hears (echo p) d (echo_of order S.network s S.pool (packet_bytes p))) p (cells.put H.waiting)
          (λ r gives. absurd (never-refused st p was again.0 again.2 again.1 r gives))
          (λ u o ws gives. (
            (λ f. refuses (echo p) 13 (inr refl) (echo_leaves order s ok S H i.trace.network.units i.stands st p (i.sendable p was) u o ws gives false (no_room _ _ f))),
            (λ ms f. let q = some_room _ _ ms f in subst (λ v. Hears (echo p) (R.delivered (R.history_after H p u (packets (instance_of s).n (place_of p) o) ws v)) (echo_of order S.network s S.pool (packet_bytes p))) q.1 (goes u o ws gives q.0)),
          ))
        where
          goes : (u : UnitState) (o : Sending) (ws : List Written) → step_on order (instance_of s) H.units p ≡ U.accepted u o ws → leb (length (H.waiting ++ packets (instance_of s).n (place_of p) o)) pool_cells ≡ true
              → Hears (echo p) (R.delivered (R.history_after H p u (packets (instance_of s).n (place_of p) o) ws (H.waiting ++ packets (instance_of s).n (place_of p) o))) (echo_of order S.network s S.pool (packet_bytes p))
          goes u o ws gives q =
              subst (Hears (echo p) (R.delivered _)) (sym (echo_leaves order s ok S H i.trace.network.units i.stands st p (i.sendable p was) u o ws gives true q))
              (record {
                number = refl;
                honest = inl refl;
                bytes = sym (map-append packet_bytes H.handed (p ∷ []));
                next =
                    traced-after st p was again.0 again.2 again.1 u o ws gives H.waiting i.trace.network.pool i.reads (beside_heard i.trace i.kept.waiting_sent again.0) i.waiting_sent
                    (S.network.used + length (packets (instance_of s).n (place_of p) o)) (pool_with S.network.used (packets (instance_of s).n (place_of p) o) S.pool)
                    (added_stored H.waiting S.network.used S.pool i.stands.stored (sized order s ok H.waiting i.stands.sendable) (packets (instance_of s).n (place_of p) o)
                    (sized order s ok (packets (instance_of s).n (place_of p) o) (sends st p was again.0 again.2 again.1 u o ws gives)) (leb-true _ pool_cells q)) (leb-true _ pool_cells q);
              })

    pub hears : (e : Event) → SentBefore H e → Hears e (hear order (instance_of s) H e) (result_of order s S e)
    hears (cell c) sb =
        deliver_cases order (instance_of s) H (λ d. Hears (cell c) d (deliver_of order S.network s S.pool c)) cells c
        (λ st. refuses (cell c) 11 (inl (refl, st)) (deliver-refused order S.network s S.pool c 11 (check_network order S.network s S.pool c 12 (over_refuses order s ok S H i.trace.network.units i.stands st) (λ z. omega (arith, z)))))
        (λ st e.
        refuses (cell c) 14 (inr (inr refl))
        (deliver-refused order S.network s S.pool c 14
        (check_cell order S.network s S.pool c (running_passes order s ok S H i.trace.network.units i.stands st) (omega (arith, none_at H.waiting c e, i.stands.stored.count)))))
        (λ st p e. from_cell c st p e)
    hears (echo p) sb = go (stopped H) refl
      where
        go : (t : Bool) → stopped H ≡ t
            → Hears (echo p) (cond t (R.refused_by 12) (R.by_decision (instance_of s) H p (cells.put H.waiting) (step_on order (instance_of s) H.units p))) (echo_of order S.network s S.pool (packet_bytes p))
        go true st = refuses (echo p) 11 (inl (refl, st)) (echo_refused order S.network s S.pool (packet_bytes p) 11 (over_refuses order s ok S H i.trace.network.units i.stands st))
        go false st = from-air p sb st

-- ---- making

pub make-traced : (order : ValueOrder) (s pool : List ℕ) (made : Made order s pool) → Traced order s (accepted-table order s pool made) (shed_made order s pool) (R.begin order (instance_of s))
make-traced order s pool made =
    making_gives order s pool made (Traced order s ok)
    (λ u o ws b.
    let kept = subst (λ r. Kept (problem_by order (instance_of s)) (E.begun r)) b.steps.steps (start-kept (problem_by order (instance_of s)) (laws order s ok) (sound_of s ok).n1) in
    record {
      trace = E.begun (M.done b.steps.agent b.steps.sent);
      stands = start_stands order s pool made u o ws b kept.network.safe;
      kept = kept;
      reads = b.steps.reads;
      reads-sent = b.steps.reads;
      reads-handed = tt;
      waiting_sent = λ x j. j;
      handed_sent = every_nil _;
      sendable = b.leaves.sent;
    })
  where
    ok : Accepted s
    ok = accepted-table order s pool made
