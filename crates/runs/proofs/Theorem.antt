-- DEMAND 3, proved (`demand3`): the statement is Demand3.antt's. A run keeps the invariant (Proof), and so its parts are read off the machine's theorem.
-- In order: one run, and that it can be brought to its end (`finishes`, `oldest_ends`); two runs of one table.
-- Assumes nothing.
use Rattle.std.specs.Prelude.{ℕ, suc, ◌≤◌, ◌≡◌, refl, ◌⊎◌, true, false, List, [], ◌∷◌, ◌++◌, map, length, replicate}
use Rattle.std.proofs.Common.{sym, ap, ◌∙◌, arith}
use Rattle.std.proofs.Math.Path.{subst}
use Rattle.base.specs.Limits.{pool_cells}
use Rattle.base.specs.Members.{In}
use Rattle.base.specs.Members.Laws.{not-in-nil}
use Rattle.table.specs.Stream.{Accepted}
use Rattle.costs.specs.declared.ValueOrder.{ValueOrder}
use Rattle.costs.specs.Least.{LeastFirst, Padded}
use Rattle.costs.specs.Least.Laws.{first_unique}
use Rattle.costs.specs.Laws.Prefix.{reported_same}
use Rattle.costs.specs.Instance.{Instance, instance_of}
use Rattle.costs.specs.Laws.Tried.{problem_by}
use Rattle.costs.specs.Laws.Stream.{sound_of}
use Rattle.costs.specs.Gather.{sizes_in}
use Rattle.message.specs.Message.{Packet}
use Rattle.rules.specs.declared.Unit.{Unit as UnitState}
use Rattle.rules.specs.Send.{packet_bytes}
use Rattle.rules.specs.Units.{unit_at}
use Rattle.rules.specs.Laws.Units.{best_padded}
use Rattle.protocol.specs.Machine as M
use Rattle.protocol.specs.Machine.{Network}
use Rattle.protocol.specs.Problem.{Problem}
use Rattle.protocol.specs.Demand3 as D
use Rattle.protocol.proofs.Theorem as T
use Rattle.protocol.proofs.Oldest.Run as O
use Rattle.protocol.proofs.Simulation.Units.{read_length}
use Rattle.protocol.specs.Simulation.First.{reports_first}
use Rattle.protocol.proofs.Simulation.Table.{laws}
use Rattle.runs.specs.Count.{value_of}
use Rattle.runs.specs.Run as R
use Rattle.runs.specs.Run.{DeliveryOf, cells, hand_over, run_in, run}
use Rattle.runs.specs.Calls.{deliver_of}
use Rattle.runs.specs.Deliveries.{deliver_all, accepted_in, handed_in}
use Rattle.runs.specs.Deliveries.Laws.{goes_on}
use Rattle.runs.specs.Demand3.{ShedReport, shed_of, shed_made, shed_after, run_bytes, refusal_at, delivery, Made, over, report_of, most, Honest, Served, Demand3}
use Rattle.runs.specs.Proof.Follow as F
use Rattle.runs.proofs.Steps.Invariant.{Invariant, deliveries_exact}
use Rattle.runs.proofs.Steps.Making.{none_handed, accepted-table, make_invariant}
use Rattle.runs.proofs.Steps.Delivery.{Delivers, after_stop, delivers}

-- ---- one run

module _ (order : ValueOrder) (s pool : List ℕ) (made : Made order s pool) where
  abbrev pub ok : Accepted s
  ok = accepted-table order s pool made

  abbrev P : Problem
  P = problem_by order (instance_of s)

  each : F.Each (delivery order s) cells order (instance_of s) (M.deliver P pool_cells) Honest (Invariant order s ok)
  each S H A i c = delivers order s ok S H A i c

  abbrev pub machine : List ℕ → Network
  machine cs = M.run P pool_cells (M.make P) cs

  -- the machine moves along
  moves : (cs : List ℕ) (A : Network) → F.moved (delivery order s) cells order (instance_of s) (M.deliver P pool_cells) Honest (Invariant order s ok) A cs ≡ M.run P pool_cells A cs
  moves [] A = refl
  moves (c ∷ cs) A = moves cs (M.deliver P pool_cells A c)

  -- at each point of the run
  pub invariant : (cs : List ℕ) → Invariant order s ok (run_bytes order s pool cs) (run order (instance_of s) cs) (machine cs)
  unfolding run_bytes run
  invariant cs =
      subst (Invariant order s ok (deliver_all (delivery order s) (shed_made order s pool) cs) (run_in cells order (instance_of s) (R.begin order (instance_of s)) cs)) (moves cs (M.make P))
      (F.kept (delivery order s) cells order (instance_of s) (M.deliver P pool_cells) Honest (Invariant order s ok) each (shed_made order s pool) (R.begin order (instance_of s)) (M.make P) (make_invariant order s pool made) (none_handed order s) cs)

  taken : (cs : List ℕ) → handed_in (delivery order s) (shed_made order s pool) cs ≡ map packet_bytes (run order (instance_of s) cs).handed
  unfolding run
  taken = F.taken (delivery order s) cells order (instance_of s) (M.deliver P pool_cells) Honest (Invariant order s ok) each (shed_made order s pool) (R.begin order (instance_of s)) (M.make P) (make_invariant order s pool made) (none_handed order s)

  counted : (cs : List ℕ) → accepted_in (delivery order s) (shed_made order s pool) cs ≡ length (run order (instance_of s) cs).handed
  unfolding run
  counted = F.counted (delivery order s) cells order (instance_of s) (M.deliver P pool_cells) Honest (Invariant order s ok) each (shed_made order s pool) (R.begin order (instance_of s)) (M.make P) (make_invariant order s pool made) (none_handed order s)

  next : (cs : List ℕ) (c : ℕ) → Delivers order s ok (run_bytes order s pool cs) (run order (instance_of s) cs) (machine cs) (invariant cs) c (hand_over order (instance_of s) (run order (instance_of s) cs) c)
      (deliver_of order (run_bytes order s pool cs).network s (run_bytes order s pool cs).pool c)
  next cs c = each (run_bytes order s pool cs) (run order (instance_of s) cs) (machine cs) (invariant cs) c

  -- ---- unit 1, on bytes, over messages and in the machine

  unit_is : (cs : List ℕ) → unit_at (run_bytes order s pool cs).network.core.units 0 ≡ unit_at (run order (instance_of s) cs).units 0
  unit_is cs = ap (λ us. unit_at us 0) (invariant cs).stands.core.same

  over_is : (cs : List ℕ) → over (run_bytes order s pool cs) ≡ ((machine cs).units 0).stopped
  over_is cs = ap (λ (u : UnitState). u.stopped) (unit_is cs) ∙ ((invariant cs).stands.core.matches.units 0 (sound_of s ok).n1).common.stopped_is

  -- ---- what a delivery then gives

  honest_next : (cs : List ℕ) (c : ℕ) → (refusal_at order s (run_bytes order s pool cs) c ≡ 0) ⊎ Honest (over (run_bytes order s pool cs)) (refusal_at order s (run_bytes order s pool cs) c)
  honest_next cs c =
      subst (λ (u : UnitState). (refusal_at order s (run_bytes order s pool cs) c ≡ 0) ⊎ Honest u.stopped (refusal_at order s (run_bytes order s pool cs) c)) (sym (unit_is cs))
      (F.honest_next (delivery order s) cells order (instance_of s) (M.deliver P pool_cells) Honest (Invariant order s ok) each (run_bytes order s pool cs) (run order (instance_of s) cs) (machine cs) (invariant cs) c)

  -- one that the machine accepts is accepted
  accepted_by : (cs : List ℕ) (c : ℕ) → (M.deliver (problem_by order (instance_of s)) pool_cells (machine cs) c).accepted ≡ suc (machine cs).accepted → refusal_at order s (run_bytes order s pool cs) c ≡ 0
  accepted_by cs c a = go (hand_over order (instance_of s) (run order (instance_of s) cs) c) (next cs c)
    where
      go : (d : DeliveryOf (List Packet)) → Delivers order s ok (run_bytes order s pool cs) (run order (instance_of s) cs) (machine cs) (invariant cs) c d (deliver_of order (run_bytes order s pool cs).network s (run_bytes order s pool cs).pool c)
          → refusal_at order s (run_bytes order s pool cs) c ≡ 0
      go (R.refused_by r) x = absurd (omega (arith, a, (invariant cs).accepted, x.next.accepted))
      go (R.delivered K) x = x.number

  -- an accepted one is counted
  pub one_counted : (cs : List ℕ) (c : ℕ) → refusal_at order s (run_bytes order s pool cs) c ≡ 0
      → value_of (shed_after order s (run_bytes order s pool cs) c).network.core.deliveries ≡ suc (value_of (run_bytes order s pool cs).network.core.deliveries)
  one_counted cs c e =
      omega (
        arith,
        deliveries_exact order s ok _ _ _ (next cs c).next,
        deliveries_exact order s ok _ _ _ (invariant cs),
        F.one_more (delivery order s) cells order (instance_of s) (M.deliver P pool_cells) Honest (Invariant order s ok) each (run_bytes order s pool cs) (run order (instance_of s) cs) (machine cs) (invariant cs) c e,
      )

  -- once box 1 has stopped every delivery is refused by 12, and changes nothing
  pub stopped_stays : (cs : List ℕ) (c : ℕ) → over (run_bytes order s pool cs) ≡ true → shed_after order s (run_bytes order s pool cs) c ≡ run_bytes order s pool cs
  stopped_stays cs c e = ap shed_of (after_stop order s ok (run_bytes order s pool cs) (run order (instance_of s) cs) (machine cs) (invariant cs) c (sym (ap (λ (u : UnitState). u.stopped) (unit_is cs)) ∙ e))

  -- ---- all of it

  pub served : (cs : List ℕ) → Served order s pool cs
  served cs =
      record {
        follows = record { units = i.stands.core.same; used = i.stands.stored.count; cells = i.stands.stored.front };
        distinct = i.stands.core.matches.distinct;
        bounded = omega (arith, counted cs, i.accepted, d.bounded);
        ends = λ e. over_is cs ∙ d.ends (sym i.accepted ∙ sym (counted cs) ∙ e);
        waits = λ e. some_wait (d.waits (sym (over_is cs) ∙ e)).0 (d.waits (sym (over_is cs) ∙ e)).1;
        progress = λ e.
            let p = T.progress (problem_by order (instance_of s)) (laws order s ok) (sound_of s ok).n1 pool_cells (T.enough_room (problem_by order (instance_of s)) (laws order s ok) (sound_of s ok).n1 (sound_of s ok).n16) cs (sym (over_is cs) ∙ e) in
            (p.0, accepted_by cs p.0 p.1);
        reported = λ e. (lotting e).0.reported;
        lotting = lotting;
        handed = i.balanced;
        taken = taken cs;
        records = i.stands.core.records;
        deliveries = deliveries_exact order s ok _ _ _ i ∙ sym (counted cs);
        accepted = counted cs;
        honest = honest_next cs;
      }
    where
      i : Invariant order s ok (run_bytes order s pool cs) (run order (instance_of s) cs) (machine cs)
      i = invariant cs

      d : D.Demand3 (problem_by order (instance_of s)) (machine cs)
      d = T.kept_demand3 (problem_by order (instance_of s)) (laws order s ok) (sound_of s ok).n1 (machine cs) (invariant cs).kept

      some_wait : (m : M.Msg) → In m (machine cs).pool → 1 ≤ (run_bytes order s pool cs).network.used
      some_wait m j = omega (arith, i.stands.stored.count, read_length order (instance_of s) (run order (instance_of s) cs).waiting (machine cs).pool i.reads, not_empty (machine cs).pool m j)
        where
          not_empty : (l : List M.Msg) (m : M.Msg) → In m l → 1 ≤ length l
          not_empty [] m j = absurd (not-in-nil j)
          not_empty (x ∷ l) m j = omega arith

      lotting : over (run_bytes order s pool cs) ≡ true → LeastFirst order (instance_of s) (report_of (run_bytes order s pool cs)).total (report_of (run_bytes order s pool cs)).assignment
          × Padded (instance_of s).n (report_of (run_bytes order s pool cs)).assignment
      lotting e =
          subst (λ (u : UnitState). LeastFirst order (instance_of s) u.bound u.best × Padded (instance_of s).n u.best) (sym (unit_is cs)) (
            reports_first order (instance_of s) (sound_of s ok) 0 (unit_at (run order (instance_of s) cs).units 0) ((machine cs).units 0) (i.stands.core.matches.units 0 (sound_of s ok).n1) (d.report (sym (over_is cs) ∙ e))
                ((i.kept.network.safe 0 (sound_of s ok).n1).stop refl (sym (over_is cs) ∙ e)) (d.first (sym (over_is cs) ∙ e)),
            best_padded order (instance_of s) (sizes_in s) (run order (instance_of s) cs).units i.stands.core.units 0 (sound_of s ok).n1,
          )

  -- ---- its end

  -- every list of cells goes on to one after which box 1 has stopped
  pub finishes : (cs : List ℕ) → (ds : List ℕ) × (over (run_bytes order s pool (cs ++ ds)) ≡ true)
  unfolding run_bytes
  finishes = goes_on (delivery order s) over (shed_made order s pool) (most (instance_of s)) (λ cs. (served cs).bounded) (λ cs. (served cs).ends) (λ cs. (served cs).progress)

  -- Oldest first, cell 0 each time, is accepted until box 1 stops, and brings the run to its end.
  pub oldest_accepted : (m : ℕ) → over (run_bytes order s pool (replicate m 0)) ≡ false → refusal_at order s (run_bytes order s pool (replicate m 0)) 0 ≡ 0
  oldest_accepted m e =
      accepted_by (replicate m 0) 0
      (O.oldest_accepted (problem_by order (instance_of s)) (laws order s ok) (sound_of s ok).n1 pool_cells (O.enough_oldest (problem_by order (instance_of s)) (sound_of s ok).n16) m (sym (over_is (replicate m 0)) ∙ e))

  pub oldest_ends : over (run_bytes order s pool (replicate (most (instance_of s)) 0)) ≡ true
  oldest_ends = over_is (replicate (most (instance_of s)) 0) ∙ O.oldest_ends (problem_by order (instance_of s)) (laws order s ok) (sound_of s ok).n1 pool_cells (O.enough_oldest (problem_by order (instance_of s)) (sound_of s ok).n16)

-- ---- two runs of one table

-- what unit 1 reports, told an order
abbrev Told : ValueOrder → Instance → ShedReport → Type 0
Told order I r = LeastFirst order I r.total r.assignment × Padded I.n r.assignment

-- Two such reports have the same total, and, told one order, the same lotting, whatever pools they come from.
pub one_report : (I : Instance) (order order' : ValueOrder) (r r' : ShedReport) → Told order I r → Told order' I r' → (r.total ≡ r'.total) × (order ≡ order' → r.assignment ≡ r'.assignment)
one_report I order order' r r' a b = (
  reported_same I _ _ _ _ a.0.reported b.0.reported,
  λ q. first_unique order' I _ _ _ _ (subst (λ (o : ValueOrder). LeastFirst o I r.total r.assignment) q a.0) b.0 a.1 b.1,
)

-- DEMAND 3: for every table that making accepts, any two orders of values, any two pools, and any two lists of cells.
pub demand3 : (s : List ℕ) (order : ValueOrder) (pool : List ℕ) → Made order s pool → (cells : List ℕ) (order' : ValueOrder) (pool' : List ℕ) → Made order' s pool' → (cells' : List ℕ)
    → Demand3 s order pool cells order' pool' cells'
demand3 s order pool made cells order' pool' made' cells' =
    let one = served order s pool made cells in
    let other = served order' s pool' made' cells' in
    record {
      one = one;
      other = other;
      agree = λ e e'. (one_report (instance_of s) order order' _ _ (one.lotting e) (other.lotting e')).0;
      same = λ q e e'. (one_report (instance_of s) order order' _ _ (one.lotting e) (other.lotting e')).1 q;
    }
