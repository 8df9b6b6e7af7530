-- PACKETS HEARD TWICE, proved (`heard-twice`): the statement is Echo.antt's. A list of events keeps the invariant (Proof), and each part is read off it and the
-- machine's theorem. Of two such lists the reports agree (`two-heard`), and a list without echoes is a run of demand 3 (`deliveries_only`), whose limit holds.
-- In order: a packet is told by its bytes; a list of events, from any point; one list; 02's words (`as_asked`); two lists; no echoes.
-- Assumes nothing.
use Rattle.std.specs.Prelude.{ℕ, suc, ◌<◌, ◌≡◌, refl, ◌⊎◌, true, cond, eqb, Result as Reading, Ok}
use Rattle.std.proofs.Math.Path.{sym, ap}
use Rattle.std.proofs.Common.{◌∙◌, subst, inl, inr, eq-eqb}
use mathlib.Core.List.{List, [], ◌∷◌, ◌++◌, map, append-nil, append_assoc}
use Rattle.std.proofs.Math.Option.{some}
use Rattle.std.proofs.Math.ListN.{get_or}
use Rattle.base.specs.declared.Refusal.{Refusal}
use Rattle.base.specs.Members.{In, here, there}
use Rattle.base.specs.Members.Laws.{in-cases, not-in-nil}
use Rattle.table.specs.Stream.{units_of, Accepted}
use Rattle.costs.specs.declared.ValueOrder.{ValueOrder}
use Rattle.costs.specs.Instance.{instance_of}
use Rattle.costs.specs.Least.{LeastFirst, Padded}
use Rattle.costs.specs.Laws.Tried.{problem_by}
use Rattle.costs.specs.Laws.Stream.{sound_of}
use Rattle.costs.specs.Gather.{sizes_in}
use Rattle.costs.specs.Gather.Sizes.{accepted-sizes_good}
use Rattle.message.specs.declared.Kind.{Kind}
use Rattle.message.specs.declared.Message.{Message}
use Rattle.message.specs.Message.{Packet}
use Rattle.message.specs.Decode.{parse_for}
use Rattle.message.specs.RoundTrip.{parse_encode, receiver_of_encode}
use Rattle.rules.specs.declared.Unit.{Unit as UnitState}
use Rattle.rules.specs.Send.{packet_bytes}
use Rattle.rules.specs.Units.{unit_at}
use Rattle.rules.specs.Laws.Packets.{Sendable}
use Rattle.rules.specs.Laws.Units.{best_padded}
use Rattle.protocol.specs.Machine.{Msg}
use Rattle.protocol.specs.Echo.Events as E
use Rattle.protocol.proofs.Echo.Theorem.{kept-heard-twice}
use Rattle.protocol.proofs.Echo.Packets.{unheard_packet}
use Rattle.protocol.specs.Simulation.First.{reports_first}
use Rattle.protocol.proofs.Simulation.Table.{laws}
use Rattle.runs.specs.Pool.{cell_of}
use Rattle.runs.specs.Pool.Stored.{cell_in_use, cell_bytes}
use Rattle.runs.specs.Run as R
use Rattle.runs.specs.Run.{History, cells, onward, run_in, run}
use Rattle.runs.specs.Deliveries.{deliver_all}
use Rattle.runs.proofs.Theorem.{one_report}
use Rattle.runs.specs.Demand3.{Shed, shed_of, shed_made, shed_after, run_bytes, delivery, Made, over, report_of}
use Rattle.runs.specs.Proof.Follow.{number_of}
use Rattle.runs.proofs.Steps.Stands.{sized}
use Rattle.runs.proofs.Steps.Making.{none_handed, accepted-table}
use Rattle.runs.specs.Echo.{Event, cell, hear, hear_from, heard, result_of, number_at, hear_bytes, heard_bytes, bytes_at, taken_in, EchoesFrom, Echoes, HonestTo, HeardTwice, NoneRefused, bytes_of, AsAsked}
use Rattle.runs.proofs.Echo.Proof.{Traced, Hears, hears, make-traced}

-- ---- a packet is told by its bytes

module _ (s : List ℕ) (ok : Accepted s) where
  one_packet : (p q : Packet) → Sendable (instance_of s).n (sizes_in s) p → Sendable (instance_of s).n (sizes_in s) q → packet_bytes p ≡ packet_bytes q → p ≡ q
  unfolding instance_of
  one_packet p q w v e = ap (λ (r : Kind × Message). record { kind = r.0; message = r.1 }) read
    where
      to : p.message.receiver ≡ q.message.receiver
      to = sym (receiver_of_encode p.kind p.message w.arrays) ∙ ap (λ l. get_or l 2 0) e ∙ receiver_of_encode q.kind q.message v.arrays

      same : ◌≡◌ {A = Reading (Kind × Message) Refusal} (Ok (p.kind, p.message)) (Ok (q.kind, q.message))
      same =
          sym (parse_encode (units_of s) (sizes_in s) p.kind p.message (accepted-sizes_good s ok) w.address w.form w.arrays)
          ∙ (λ i. parse_for (units_of s) (sizes_in s) (to i) (e i)) ∙ parse_encode (units_of s) (sizes_in s) q.kind q.message (accepted-sizes_good s ok) v.address v.form v.arrays

      read : ◌≡◌ {A = Kind × Message} (p.kind, p.message) (q.kind, q.message)
      read = let f = same in cc

  -- one whose bytes are among others'
  in_bytes : (p : Packet) (ps : List Packet) → Sendable (instance_of s).n (sizes_in s) p → ((q : Packet) → In q ps → Sendable (instance_of s).n (sizes_in s) q) → In (packet_bytes p) (map packet_bytes ps) → In p ps
  in_bytes p [] w v i = absurd (not-in-nil i)
  in_bytes p (q ∷ ps) w v i = go (in-cases i) (λ j. in_bytes p ps w (λ r k. v r (there k)) j)
    where
      go : (packet_bytes p ≡ packet_bytes q) ⊎ In (packet_bytes p) (map packet_bytes ps) → (In (packet_bytes p) (map packet_bytes ps) → In p ps) → In p (q ∷ ps)
      go (inl e) ih = here (one_packet p q w (v q (here refl)) e)
      go (inr j) ih = there (ih j)

-- the cell of a packet that waits
cell_of_lem : (ms : List Packet) (p : Packet) → In p ms → (c : ℕ) × (cells.at ms c ≡ some p)
cell_of_lem [] p i = absurd (not-in-nil i)
cell_of_lem (q ∷ ms) p i = go (in-cases i) (λ j. cell_of_lem ms p j)
  where
    go : (p ≡ q) ⊎ In p ms → (In p ms → (c : ℕ) × (cells.at ms c ≡ some p)) → (c : ℕ) × (cells.at (q ∷ ms) c ≡ some p)
    go (inl e) ih = (0, ap some (sym e))
    go (inr j) ih = let r = ih j in (suc r.0, r.1)

-- ---- a list of events, from any point

module _ (order : ValueOrder) (s : List ℕ) (ok : Accepted s) where
  record Ran (S : Shed) (H : History) (es : List Event) : Type 0 where
    pub traced : Traced order s ok (hear_bytes order s S es) (hear_from order (instance_of s) H es)
    pub bytes : map packet_bytes H.handed ++ taken_in order s S es ≡ map packet_bytes (hear_from order (instance_of s) H es).handed

  ran : (es : List Event) (S : Shed) (H : History) → Traced order s ok S H → EchoesFrom order (instance_of s) H es → Ran S H es
  unfolding hear_bytes hear_from taken_in
  ran [] S H i sb = record { traced = i; bytes = append-nil (map packet_bytes H.handed) }
  ran (e ∷ es) S H i sb =
      let d = hears order s ok S H i e sb.0 in
      let r = ran es (shed_of (result_of order s S e)) (onward H (hear order (instance_of s) H e)) d.next sb.1 in
      record {
        traced = r.traced;
        bytes =
            sym (append_assoc (map packet_bytes H.handed) (cond (eqb (number_at order s S e) 0) (bytes_at S e ∷ []) []) (taken_in order s (shed_of (result_of order s S e)) es))
            ∙ ap (λ l. l ++ taken_in order s (shed_of (result_of order s S e)) es) d.bytes ∙ r.bytes;
      }

-- ---- one list

module _ (order : ValueOrder) (s pool : List ℕ) (made : Made order s pool) where
  abbrev ok : Accepted s
  ok = accepted-table order s pool made

  all : (es : List Event) → Echoes order (instance_of s) es → Ran order s ok (shed_made order s pool) (R.begin order (instance_of s)) es
  all es sb = ran order s ok es (shed_made order s pool) (R.begin order (instance_of s)) (make-traced order s pool made) sb

  pub heard-twice : (events : List Event) → Echoes order (instance_of s) events → HeardTwice order s pool events
  heard-twice events sb =
      record {
        follows = record { units = i.stands.core.same; used = i.stands.stored.count; cells = i.stands.stored.front };
        distinct = i.stands.core.matches.distinct;
        reported = λ e. (lotting e).0.reported;
        lotting = lotting;
        waits = λ e. unheard (d.waits (sym over_is ∙ e));
        taken = taken;
        sent = i.handed_sent;
        records = i.stands.core.records;
        deliveries = i.stands.core.deliveries;
        honest = λ e was. honest e (hears order s ok S H i e was);
      }
    where
      S : Shed
      S = heard_bytes order s pool events

      H : History
      H = heard order (instance_of s) events

      i : Traced order s ok (heard_bytes order s pool events) (heard order (instance_of s) events)
      i = (all events sb).traced

      d : E.HeardTwice (problem_by order (instance_of s)) i.trace
      d = kept-heard-twice (problem_by order (instance_of s)) (laws order s ok) (sound_of s ok).n1 i.trace i.kept

      unit_is : unit_at S.network.core.units 0 ≡ unit_at H.units 0
      unit_is = ap (λ us. unit_at us 0) i.stands.core.same

      over_is : over S ≡ (i.trace.network.units 0).stopped
      over_is = ap (λ (u : UnitState). u.stopped) unit_is ∙ (i.stands.core.matches.units 0 (sound_of s ok).n1).common.stopped_is

      taken : taken_in order s (shed_made order s pool) events ≡ map packet_bytes H.handed
      taken = ap (λ l. map packet_bytes l ++ taken_in order s (shed_made order s pool) events) (sym (none_handed order s)) ∙ (all events sb).bytes

      lotting : over S ≡ true → LeastFirst order (instance_of s) (report_of S).total (report_of S).assignment × Padded (instance_of s).n (report_of S).assignment
      lotting e =
          subst (λ (u : UnitState). LeastFirst order (instance_of s) u.bound u.best × Padded (instance_of s).n u.best) (sym unit_is) (
            reports_first order (instance_of s) (sound_of s ok) 0 (unit_at H.units 0) (i.trace.network.units 0) (i.stands.core.matches.units 0 (sound_of s ok).n1) (d.report (sym over_is ∙ e))
                ((i.kept.network.safe 0 (sound_of s ok).n1).stop refl (sym over_is ∙ e)) (d.first (sym over_is ∙ e)),
            best_padded order (instance_of s) (sizes_in s) H.units i.stands.core.units 0 (sound_of s ok).n1,
          )

      unheard : (m : Msg) × E.Unheard i.trace m → (c : ℕ) × (c < S.network.used) × (In (cell_of S.pool c) (taken_in order s (shed_made order s pool) events) → ⊥)
      unheard w =
          let p = unheard_packet order (instance_of s) (sound_of s ok) i.trace i.kept H.waiting H.handed i.reads i.reads-handed w.0 w.1 in
          let c = cell_of_lem H.waiting p.0 p.1 in
          let z = sized order s ok H.waiting i.stands.sendable in (
            c.0,
            cell_in_use H.waiting S.network.used S.pool i.stands.stored z c.0 p.0 c.1,
            (λ j.
                p.2
                (in_bytes s ok p.0 H.handed (i.stands.sendable p.0 p.1) (λ q k. i.sendable q (i.handed_sent q k))
                (subst (In (packet_bytes p.0)) taken (subst (λ l. In l (taken_in order s (shed_made order s pool) events)) (cell_bytes H.waiting S.network.used S.pool i.stands.stored z c.0 p.0 c.1) j)))),
          )

      honest : (e : Event) → Hears order s ok S H i e (hear order (instance_of s) H e) (result_of order s S e) → (number_at order s S e ≡ 0) ⊎ HonestTo (over S) e (number_at order s S e)
      honest e h =
          subst (λ k. (k ≡ 0) ⊎ HonestTo (over S) e k) (sym h.number)
          (subst (λ t. (number_of (hear order (instance_of s) H e) ≡ 0) ⊎ HonestTo t e (number_of (hear order (instance_of s) H e))) (sym (ap (λ (u : UnitState). u.stopped) unit_is)) h.honest)

-- ---- 02's words: where nothing is refused, what was handed over is what the events hand over

all_taken : (order : ValueOrder) (s : List ℕ) (es : List Event) (S : Shed) → NoneRefused order s S es → taken_in order s S es ≡ bytes_of order s S es
unfolding taken_in bytes_of
all_taken order s [] S h = refl
all_taken order s (e ∷ es) S h =
    let r = all_taken order s es (shed_of (result_of order s S e)) h.1 in
    ap (λ t. cond t (bytes_at S e ∷ []) [] ++ taken_in order s (shed_of (result_of order s S e)) es) (eq-eqb (number_at order s S e) 0 h.0) ∙ ap (λ l. bytes_at S e ∷ l) r

pub as_asked : (order : ValueOrder) (s pool : List ℕ) → Made order s pool → (events : List Event) → Echoes order (instance_of s) events → NoneRefused order s (shed_made order s pool) events → AsAsked order s pool events
as_asked order s pool made events sb unrefused =
    let h = heard-twice order s pool made events sb in
    record {
      distinct = h.distinct;
      reported = h.reported;
      waits = λ e. let w = h.waits e in (w.0, w.1, λ j. w.2 (subst (In (cell_of (heard_bytes order s pool events).pool w.0)) (sym (all_taken order s events (shed_made order s pool) unrefused)) j));
    }

-- ---- two lists

-- Two sheds of one table report the same total, and, told one order, the same lotting.
pub two-heard : (s : List ℕ) (order : ValueOrder) (pool : List ℕ) → Made order s pool → (events : List Event) → Echoes order (instance_of s) events
    → (order' : ValueOrder) (pool' : List ℕ) → Made order' s pool' → (events' : List Event) → Echoes order' (instance_of s) events'
    → over (heard_bytes order s pool events) ≡ true → over (heard_bytes order' s pool' events') ≡ true
    → ((report_of (heard_bytes order s pool events)).total ≡ (report_of (heard_bytes order' s pool' events')).total)
    × (order ≡ order' → (report_of (heard_bytes order s pool events)).assignment ≡ (report_of (heard_bytes order' s pool' events')).assignment)
two-heard s order pool made es sb order' pool' made' es' sb' e e' =
    one_report (instance_of s) order order' _ _ ((heard-twice order s pool made es sb).lotting e) ((heard-twice order' s pool' made' es' sb').lotting e')

-- ---- no echoes: the run of demand 3, to which its limit applies

pub deliveries_only : (order : ValueOrder) (s pool cs : List ℕ)
    → Echoes order (instance_of s) (map cell cs) × (heard_bytes order s pool (map cell cs) ≡ run_bytes order s pool cs) × (heard order (instance_of s) (map cell cs) ≡ run order (instance_of s) cs)
unfolding run_bytes run hear_bytes hear_from deliver_all run_in
deliveries_only order s pool cs = (were_sent cs (R.begin order (instance_of s)), bytes cs (shed_made order s pool), messages cs (R.begin order (instance_of s)))
  where
    were_sent : (cs : List ℕ) (H : History) → EchoesFrom order (instance_of s) H (map cell cs)
    were_sent [] H = tt
    were_sent (c ∷ cs) H = (tt, were_sent cs (onward H (R.hand_over order (instance_of s) H c)))

    bytes : (cs : List ℕ) (S : Shed) → hear_bytes order s S (map cell cs) ≡ deliver_all (delivery order s) S cs
    bytes [] S = refl
    bytes (c ∷ cs) S = bytes cs (shed_after order s S c)

    messages : (cs : List ℕ) (H : History) → hear_from order (instance_of s) H (map cell cs) ≡ run_in cells order (instance_of s) H cs
    messages [] H = refl
    messages (c ∷ cs) H = messages cs (onward H (R.hand_over order (instance_of s) H c))
