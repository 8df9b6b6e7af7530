-- DEMAND 3 over 02's pool, proved (`demand3`): the statement is Demand3.antt's. A run keeps the invariant (Proof), and so its parts are read off the machine's theorem.
-- In order: one run, and that it can be brought to its end (`finishes`); two runs of one table; one over this pool and one over 01's (`two_pools`).
-- Assumes nothing.
use Rattle.std.specs.Prelude.{◌≡◌, ℕ, suc, true, false, ◌⊎◌, List, ◌++◌, map, length}
use Rattle.std.specs.Prelude.{refl}
use Rattle.std.proofs.Common.{sym, ap, ◌∙◌, subst, arith}
use Rattle.base.specs.Members.{In}
use Rattle.table.specs.Stream.{Accepted}
use Rattle.costs.specs.declared.ValueOrder.{ValueOrder}
use Rattle.costs.specs.Least.{LeastFirst, Padded}
use Rattle.costs.specs.Instance.{instance_of}
use Rattle.costs.specs.Laws.Tried.{problem_by}
use Rattle.costs.specs.Laws.Stream.{sound_of}
use Rattle.costs.specs.Gather.{sizes_in}
use Rattle.rules.specs.declared.Unit.{Unit as UnitState}
use Rattle.rules.specs.Send.{packet_bytes}
use Rattle.rules.specs.Units.{unit_at}
use Rattle.rules.specs.Laws.Units.{best_padded}
use Rattle.protocol.specs.Machine.{Msg}
use Rattle.protocol.specs.Demand3 as P
use Rattle.protocol.proofs.Theorem as T
use Rattle.protocol.specs.Simulation.First.{reports_first}
use Rattle.protocol.proofs.Simulation.Table.{laws}
use Rattle.runs.specs.Count.{value_of}
use Rattle.runs.specs.Run.{stopped}
use Rattle.runs.specs.Deliveries.{accepted_in, handed_in}
use Rattle.runs.specs.Deliveries.Laws.{goes_on}
use Rattle.runs.specs.Demand3 as D
use Rattle.runs.specs.Demand3.{most}
use Rattle.runs.proofs.Theorem as O
use Rattle.runs.proofs.Theorem.{one_report}
use Rattle.runs.specs.Proof.Follow as F
use Rattle.slots.specs.Run.{slots, begin, run}
use Rattle.slots.specs.Bytes.{is_empty}
use Rattle.slots.specs.Demand3.{shed_of, shed_made, shed_after, run_bytes, refusal_at, delivery, Made, over, report_of, Honest, Served, Demand3}
use Rattle.slots.specs.Proof.Cells.{waits_at}
use Rattle.slots.specs.Proof.Overwriting.{packet_at}
use Rattle.slots.specs.Proof.Stored.{some_full}
use Rattle.slots.specs.Proof.Invariant as I
use Rattle.slots.specs.Proof.Invariant.{Invariant, deliveries_exact}
use Rattle.slots.specs.Proof.Making.{none_handed, accepted-table, make_invariant}
use Rattle.slots.specs.Proof.Delivery.{still, after_stop, not_empty_accepted, delivers}

-- ---- one run

module _ (order : ValueOrder) (s pool : List ℕ) (made : Made order s pool) where
  abbrev pub ok : Accepted s
  ok = accepted-table order s pool made

  each : F.Each (delivery order s) (slots (instance_of s).n) order (instance_of s) still Honest (λ S H a. Invariant order s ok S H)
  each S H a i c = delivers order s ok S H i c

  -- at each point of the run
  pub invariant : (cs : List ℕ) → Invariant order s ok (run_bytes order s pool cs) (run order (instance_of s) cs)
  unfolding run_bytes run
  invariant = F.kept (delivery order s) (slots (instance_of s).n) order (instance_of s) still Honest (λ S H a. Invariant order s ok S H) each (shed_made order s pool) (begin order (instance_of s)) tt (make_invariant order s pool made) (none_handed order s)

  taken : (cs : List ℕ) → handed_in (delivery order s) (shed_made order s pool) cs ≡ map packet_bytes (run order (instance_of s) cs).handed
  unfolding run
  taken = F.taken (delivery order s) (slots (instance_of s).n) order (instance_of s) still Honest (λ S H a. Invariant order s ok S H) each (shed_made order s pool) (begin order (instance_of s)) tt (make_invariant order s pool made) (none_handed order s)

  counted : (cs : List ℕ) → accepted_in (delivery order s) (shed_made order s pool) cs ≡ length (run order (instance_of s) cs).handed
  unfolding run
  counted = F.counted (delivery order s) (slots (instance_of s).n) order (instance_of s) still Honest (λ S H a. Invariant order s ok S H) each (shed_made order s pool) (begin order (instance_of s)) tt (make_invariant order s pool made) (none_handed order s)

  -- ---- unit 1, on bytes, over messages and in the machine

  unit_is : (cs : List ℕ) → unit_at (run_bytes order s pool cs).core.units 0 ≡ unit_at (run order (instance_of s) cs).units 0
  unit_is cs = ap (λ us. unit_at us 0) (invariant cs).core.same

  stop_is : (cs : List ℕ) → over (run_bytes order s pool cs) ≡ stopped (run order (instance_of s) cs)
  stop_is cs = ap (λ (u : UnitState). u.stopped) (unit_is cs)

  over_is : (cs : List ℕ) → over (run_bytes order s pool cs) ≡ ((invariant cs).agents 0).stopped
  over_is cs = stop_is cs ∙ I.same_stop order s ok (run_bytes order s pool cs) (run order (instance_of s) cs) (invariant cs)

  -- ---- what a delivery then gives

  honest_next : (cs : List ℕ) (c : ℕ) → (refusal_at order s (run_bytes order s pool cs) c ≡ 0) ⊎ Honest (over (run_bytes order s pool cs)) (refusal_at order s (run_bytes order s pool cs) c)
  honest_next cs c =
      subst (λ t. (refusal_at order s (run_bytes order s pool cs) c ≡ 0) ⊎ Honest t (refusal_at order s (run_bytes order s pool cs) c)) (sym (stop_is cs))
      (F.honest_next (delivery order s) (slots (instance_of s).n) order (instance_of s) still Honest (λ S H a. Invariant order s ok S H) each (run_bytes order s pool cs) (run order (instance_of s) cs) tt (invariant cs) c)

  -- an accepted one is counted
  pub one_counted : (cs : List ℕ) (c : ℕ) → refusal_at order s (run_bytes order s pool cs) c ≡ 0
      → value_of (shed_after order s (run_bytes order s pool cs) c).core.deliveries ≡ suc (value_of (run_bytes order s pool cs).core.deliveries)
  one_counted cs c e =
      omega (
        arith,
        deliveries_exact order s ok _ _ (delivers order s ok (run_bytes order s pool cs) (run order (instance_of s) cs) (invariant cs) c).next,
        deliveries_exact order s ok _ _ (invariant cs),
        F.one_more (delivery order s) (slots (instance_of s).n) order (instance_of s) still Honest (λ S H a. Invariant order s ok S H) each (run_bytes order s pool cs) (run order (instance_of s) cs) tt (invariant cs) c e,
      )

  -- once box 1 has stopped every delivery is refused by 12, and changes nothing
  pub stopped_stays : (cs : List ℕ) (c : ℕ) → over (run_bytes order s pool cs) ≡ true → shed_after order s (run_bytes order s pool cs) c ≡ run_bytes order s pool cs
  stopped_stays cs c e = ap shed_of (after_stop order s ok (run_bytes order s pool cs) (run order (instance_of s) cs) (invariant cs) c (sym (stop_is cs) ∙ e))

  -- ---- all of it

  pub served : (cs : List ℕ) → Served order s pool cs
  served cs =
      record {
        follows = record { units = i.core.same; cells = i.bytes };
        distinct = i.core.matches.distinct;
        bounded = omega (arith, counted cs, d.bounded);
        ends = λ e. over_is cs ∙ d.ends (sym (counted cs) ∙ e);
        waits = λ e. let w = d.waits (sym (over_is cs) ∙ e) in some_wait w.0 w.1;
        progress = λ e c f. not_empty_accepted order s ok (run_bytes order s pool cs) (run order (instance_of s) cs) i c (sym (stop_is cs) ∙ e) f;
        reported = λ e. (lotting e).0.reported;
        lotting = lotting;
        handed = i.balanced;
        fresher = i.fresher;
        taken = taken cs;
        records = i.core.records;
        deliveries = deliveries_exact order s ok _ _ i ∙ sym (counted cs);
        accepted = counted cs;
        honest = honest_next cs;
      }
    where
      i : Invariant order s ok (run_bytes order s pool cs) (run order (instance_of s) cs)
      i = invariant cs

      d : P.Demand3 (problem_by order (instance_of s)) (I.machine order s ok (run_bytes order s pool cs) (run order (instance_of s) cs) i)
      d = T.kept_demand3 (problem_by order (instance_of s)) (laws order s ok) (sound_of s ok).n1 (I.machine order s ok (run_bytes order s pool cs) (run order (instance_of s) cs) i) i.kept.kept

      some_wait : (m : Msg) → In m (I.machine order s ok (run_bytes order s pool cs) (run order (instance_of s) cs) i).pool → (cell : ℕ) × (is_empty (instance_of s).n (run_bytes order s pool cs).pool cell ≡ false)
      some_wait m j =
          let c = waits_at i.msgs m j in
          let p = packet_at order (instance_of s) (sizes_in s) (run order (instance_of s) cs).waiting.cells i.msgs i.cells c.0 m c.1 in
          (c.0, some_full (instance_of s).n (sound_of s ok).n16 (run order (instance_of s) cs).waiting.cells (run_bytes order s pool cs).pool i.cells.size (record { bytes = i.bytes; room = i.room }) c.0 p.0 p.1)

      lotting : over (run_bytes order s pool cs) ≡ true → LeastFirst order (instance_of s) (report_of (run_bytes order s pool cs)).total (report_of (run_bytes order s pool cs)).assignment
          × Padded (instance_of s).n (report_of (run_bytes order s pool cs)).assignment
      lotting e =
          subst (λ (u : UnitState). LeastFirst order (instance_of s) u.bound u.best × Padded (instance_of s).n u.best) (sym (unit_is cs)) (
            reports_first order (instance_of s) (sound_of s ok) 0 (unit_at (run order (instance_of s) cs).units 0) (i.agents 0) (i.core.matches.units 0 (sound_of s ok).n1) (d.report (sym (over_is cs) ∙ e))
                ((i.kept.kept.network.safe 0 (sound_of s ok).n1).stop refl (sym (over_is cs) ∙ e)) (d.first (sym (over_is cs) ∙ e)),
            best_padded order (instance_of s) (sizes_in s) (run order (instance_of s) cs).units i.core.units 0 (sound_of s ok).n1,
          )

  -- every list of cells goes on to one after which box 1 has stopped
  pub finishes : (cs : List ℕ) → (ds : List ℕ) × (over (run_bytes order s pool (cs ++ ds)) ≡ true)
  unfolding run_bytes
  finishes =
      goes_on (delivery order s) over (shed_made order s pool) (most (instance_of s)) (λ cs. (served cs).bounded) (λ cs. (served cs).ends)
      (λ cs e. let w = (served cs).waits e in (w.0, (served cs).progress e w.0 w.1))

-- ---- two runs of one table

-- DEMAND 3: for every table that making accepts, any two orders of values, any two pools, and any two lists of cells.
pub demand3 : (s : List ℕ) (order : ValueOrder) (pool : List ℕ) → Made order s pool → (cells : List ℕ) (order' : ValueOrder) (pool' : List ℕ) → Made order' s pool' → (cells' : List ℕ)
    → Demand3 s order pool cells order' pool' cells'
demand3 s order pool made cells order' pool' made' cells' =
    let one = served order s pool made cells in
    let other = served order' s pool' made' cells' in
    record {
      one = one;
      other = other;
      agree = λ e e'. (one_report (instance_of s) order order' _ _ (one.lotting e) (other.lotting e')).0;
      same = λ q e e'. (one_report (instance_of s) order order' _ _ (one.lotting e) (other.lotting e')).1 q;
    }

-- ---- a run over this pool and one over 01's

-- They report the same total, and, told one order, the same lotting.
pub two_pools : (s : List ℕ) (order : ValueOrder) (pool : List ℕ) → Made order s pool → (cells : List ℕ) (order' : ValueOrder) (pool' : List ℕ) → D.Made order' s pool' → (cells' : List ℕ)
    → over (run_bytes order s pool cells) ≡ true → D.over (D.run_bytes order' s pool' cells') ≡ true
    → ((report_of (run_bytes order s pool cells)).total ≡ (D.report_of (D.run_bytes order' s pool' cells')).total)
    × (order ≡ order' → (report_of (run_bytes order s pool cells)).assignment ≡ (D.report_of (D.run_bytes order' s pool' cells')).assignment)
two_pools s order pool made cells order' pool' made' cells' e e' =
    one_report (instance_of s) order order' _ _ ((served order s pool made cells).lotting e) ((O.served order' s pool' made' cells').lotting e')
