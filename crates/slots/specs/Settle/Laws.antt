-- The loop that runs a network over this pool to its end does what `settle_of` says. None of its deliveries is refused: until unit 1 stops a message waits,
-- so one waits at the lowest cell that isn't all zero, and each that waits can be delivered.
-- In order: the lowest cell; what holds after each of these deliveries (`After`), and how it ends; the turns of the loop.
-- Assumes nothing.
use Rattle.std.specs.Prelude.{◌≡◌, ℕ, zero, suc, ◌+◌, ◌-◌, ◌<◌, ◌≤◌, Bool, true, false, cond, List, [], ◌≢◌}
use Rattle.std.specs.Prelude.{refl}
use Rattle.std.proofs.Common.{sym, ◌∙◌, arith}
use Rattle.std.proofs.Math.Path.{ap, subst}
use Rattle.std.proofs.lemmas.Bool.{false≢true}
use Rattle.table.specs.Block.{all_zero}
use Rattle.table.specs.Stream.{units_of}
use Rattle.costs.specs.declared.ValueOrder.{ValueOrder}
use Rattle.costs.specs.Instance.{instance_of}
use Rattle.runs.specs.declared.Core.{Core}
use Rattle.runs.specs.Count.{value_of}
use Rattle.runs.specs.Pool.{cell_of}
use Rattle.runs.specs.Deliveries.{deliver_all, accepted_in}
use Rattle.runs.specs.Deliveries.Ending as E
use Rattle.runs.specs.Demand3.{most}
use Rattle.runs.proofs.Steps.Core.{core_passes}
use Rattle.slots.specs.declared.Answer.{Answer}
use Rattle.slots.specs.Slot.{used_slots}
use Rattle.slots.specs.Bytes.{is_empty}
use Rattle.slots.specs.Calls.{Result, make_of, lent_refusal, deliver_of}
use Rattle.slots.specs.Run.{run}
use Rattle.slots.specs.Checks.{lent_passes}
use Rattle.slots.specs.Demand3.{Shed, shed_of, shed_made, shed_after, run_bytes, refusal_at, delivery, Made, over}
use Rattle.slots.specs.Placing.{not_empty, empty_used}
use Rattle.slots.specs.Settle.{first_from, lowest, lowest_cells, settled, unless_unmade, settle_of}
use Rattle.slots.specs.Theorem.{ok, invariant, one_counted, stopped_stays, served}

-- ---- the lowest cell

-- where one of k cells from c on isn't all zero, the first of them isn't
first_full : (k c : ℕ) (pool : List ℕ) (cell : ℕ) → c ≤ cell → cell < c + k → all_zero (cell_of pool cell) ≡ false → (first_from k c pool < c + k) × (all_zero (cell_of pool (first_from k c pool)) ≡ false)
unfolding first_from
first_full zero c pool cell lo hi e = absurd (omega arith)
first_full (suc k) c pool cell lo hi e = go (all_zero (cell_of pool c)) refl (λ l. first_full k (suc c) pool cell l (omega arith) e)
  where
    go : (t : Bool) → all_zero (cell_of pool c) ≡ t → (suc c ≤ cell → (first_from k (suc c) pool < suc c + k) × (all_zero (cell_of pool (first_from k (suc c) pool)) ≡ false))
        → (cond t (first_from k (suc c) pool) c < c + suc k) × (all_zero (cell_of pool (cond t (first_from k (suc c) pool) c)) ≡ false)
    go false f rest = (omega arith, f)
    go true f rest =
        let other : cell ≡ c → ⊥ = λ q. false≢true (sym e ∙ ap (λ x. all_zero (cell_of pool x)) q ∙ f) in
        let r = rest (omega arith) in
        (omega (arith, r.0), r.1)

-- where a message waits, one waits at the lowest
pub lowest_waits : (n : ℕ) (pool : List ℕ) (cell : ℕ) → is_empty n pool cell ≡ false → is_empty n pool (lowest n pool) ≡ false
lowest_waits n pool cell e =
    let used = not_empty n pool cell e in
    let f = first_full (used_slots n) 0 pool cell (omega arith) (omega (arith, used)) (empty_used n pool cell used ∙ e) in
    sym (empty_used n pool (lowest n pool) (omega (arith, f.0))) ∙ f.1

-- ---- after some deliveries of the lowest cell, all accepted, from the shed S₀ on

abbrev count_of : Shed → ℕ
count_of S = value_of S.core.deliveries

abbrev next : ValueOrder → List ℕ → Shed → Shed
next order s S = shed_after order s S (lowest (units_of s) S.pool)

-- k of them
abbrev lowest_run : ValueOrder → List ℕ → Shed → ℕ → Shed
lowest_run order s S k = deliver_all (delivery order s) S (lowest_cells order s S k)

abbrev pub After : ValueOrder → List ℕ → Shed → Shed → Type 0
After order s S₀ S = S ≡ lowest_run order s S₀ (value_of S.core.deliveries)

-- one more
one_more : (order : ValueOrder) (s : List ℕ) (S : Shed) (k : ℕ) → lowest_run order s S (suc k) ≡ next order s (lowest_run order s S k)
unfolding deliver_all lowest_cells
one_more order s S zero = refl
one_more order s S (suc k) = one_more order s (next order s S) k

module _ (order : ValueOrder) (s pool : List ℕ) (made : Made order s pool) where
  abbrev start : Shed
  start = shed_made order s pool

  abbrev cells : ℕ → List ℕ
  cells k = lowest_cells order s start k

  after_making : After order s start start
  unfolding run_bytes deliver_all accepted_in lowest_cells
  after_making = ap (λ k. lowest_run order s start k) (sym (served order s pool made []).deliveries)

  -- no check would refuse it
  made_passes : lent_refusal order start.core s start.pool ≡ 0
  unfolding run_bytes deliver_all
  made_passes =
      let i = invariant order s pool made [] in
      lent_passes order start.core s start.pool i.room (core_passes order s (ok order s pool made) start.core (run order (instance_of s) []) i.agents i.core)

  abbrev choose : Shed → ℕ
  choose S = lowest (units_of s) S.pool

  promise : E.Promise (delivery order s) start over count_of (most (instance_of s))
  unfolding run_bytes
  promise =
      record {
        bounded = λ cs. let v = served order s pool made cs in subst (λ x. x ≤ most (instance_of s)) (sym v.deliveries) v.bounded;
        counted = one_counted order s pool made;
        stays = stopped_stays order s pool made;
      }

  accepts : (k : ℕ) → over (lowest_run order s start k) ≡ false → refusal_at order s (lowest_run order s start k) (choose (lowest_run order s start k)) ≡ 0
  unfolding run_bytes instance_of
  accepts k st =
      let v = served order s pool made (cells k) in
      let w = v.waits st in
      v.progress st _ (lowest_waits (units_of s) _ w.0 w.1)

  module _ (S : Shed) (a : After order s start S) where
    -- no run accepts more than (3n - 1) × N
    after_bounded : count_of S ≤ most (instance_of s)
    after_bounded = E.after_bounded (delivery order s) start over count_of choose (most (instance_of s)) promise cells (one_more order s start) accepts S a

    after_next : over S ≡ false → (count_of (next order s S) ≡ suc (count_of S)) × After order s start (next order s S)
    after_next st = (
      E.after_counted (delivery order s) start over count_of choose (most (instance_of s)) promise cells (one_more order s start) accepts S a st,
      E.after_next (delivery order s) start over count_of choose (most (instance_of s)) promise cells (one_more order s start) accepts S a st,
    )

    pub settles_stopped : over S ≡ true → settle_of order s pool ≡ settled S
    unfolding settle_of run_bytes
    settles_stopped st = ap (λ r. unless_unmade order r s pool) made ∙ ap settled (E.after_all (delivery order s) start over count_of choose (most (instance_of s)) promise cells (one_more order s start) accepts S a st)

  -- the network that is handed back has come to its end
  pub settle_ends : over (shed_of (settle_of order s pool)) ≡ true
  unfolding settle_of run_bytes
  settle_ends =
      ap (λ r. over (shed_of (unless_unmade order r s pool))) made
      ∙ E.rule_ends (delivery order s) start over count_of choose (most (instance_of s)) promise cells (one_more order s start) accepts
      (λ cs h. let v = served order s pool made cs in v.ends (sym v.deliveries ∙ h))

-- ---- the turns of the loop that does it

-- making refused: nothing more is done
pub settle_unmade : (order : ValueOrder) (s p : List ℕ) (a : Answer) (l : List ℕ) → (a ≡ (make_of order s p).answer) × (l ≡ (make_of order s p).pool) → (a.refusal ≢ 0) → (a ≡ (settle_of order s p).answer) × (l ≡ (settle_of order s p).pool)
unfolding settle_of
settle_unmade order s p a l e ne = go (make_of order s p).answer.refusal (λ z. ne (ap (λ (x : Answer). x.refusal) e.0 ∙ z))
  where
    go : (r : ℕ) → (r ≢ 0) → (a ≡ (unless_unmade order r s p).answer) × (l ≡ (unless_unmade order r s p).pool)
    go zero h = absurd (h refl)
    go (suc r) h = e

-- a network as making gave it
pub record Begun (order : ValueOrder) (s : List ℕ) (core : Core) (m : List ℕ) : Type 0 where
  pub pool : List ℕ
  pub gave : (record { refusal = 0; core = core } ≡ (make_of order s pool).answer) × (m ≡ (make_of order s pool).pool)

pub begun_by : (order : ValueOrder) (s p : List ℕ) (a : Answer) (l : List ℕ) → (a ≡ (make_of order s p).answer) × (l ≡ (make_of order s p).pool) → a.refusal ≡ 0 → Begun order s a.core l
begun_by order s p a l e z = record { pool = p; gave = (ap (λ (r : ℕ). record { refusal = r; core = a.core }) (sym z) ∙ e.0, e.1) }

-- and what some deliveries of the lowest cell leave of it, once unit 1 has stopped
pub record Ended (order : ValueOrder) (s : List ℕ) (core : Core) (m : List ℕ) (end : Core) (pool : List ℕ) : Type 0 where
  pub stopped : over (record { core = end; pool = pool }) ≡ true
  pub after : After order s (record { core = core; pool = m }) (record { core = end; pool = pool })

-- making gave a and the pool l; now the units and counts are core and the pool is m
module _ (order : ValueOrder) (s p : List ℕ) (a : Answer) (l : List ℕ) (e : (a ≡ (make_of order s p).answer) × (l ≡ (make_of order s p).pool)) (z : a.refusal ≡ 0) where
  abbrev pub Reached : Core → List ℕ → Type 0
  Reached core m = After order s (record { core = a.core; pool = l }) (record { core = core; pool = m })

  made : Made order s p
  made = ap (λ (x : Answer). x.refusal) (sym e.0) ∙ z

  start_is : ◌≡◌ {A = Shed} (record { core = a.core; pool = l }) (shed_made order s p)
  start_is = λ i. record { core = (e.0 i).core; pool = e.1 i }

  pub begun_passes : lent_refusal order a.core s l ≡ 0
  begun_passes = subst (λ (S₀ : Shed). lent_refusal order S₀.core s S₀.pool ≡ 0) (sym start_is) (made_passes order s p made)

  pub reached_start : Reached a.core l
  reached_start = subst (λ (S₀ : Shed). After order s S₀ S₀) (sym start_is) (after_making order s p made)

  module _ (core : Core) (m : List ℕ) (r : Reached core m) where
    from_making : After order s (shed_made order s p) (record { core = core; pool = m })
    from_making = subst (λ (S₀ : Shed). After order s S₀ (record { core = core; pool = m })) start_is r

    -- unit 1 has stopped
    pub settle-stopped : over (record { core = core; pool = m }) ≡ true → (record { refusal = 0; core = core } ≡ (settle_of order s p).answer) × (m ≡ (settle_of order s p).pool)
    settle-stopped st =
        let q = settles_stopped order s p made (record { core = core; pool = m }) from_making st in
        (ap (λ (x : Result). x.answer) (sym q), ap (λ (x : Result). x.pool) (sym q))

    -- it has not, and the delivery of the lowest cell c gave d and left the pool m'
    module _ (c : ℕ) (is : c ≡ lowest (units_of s) m) (d : Answer) (m' : List ℕ) (f : (d ≡ (deliver_of order core s m c).answer) × (m' ≡ (deliver_of order core s m c).pool)) (st : over (record { core = core; pool = m }) ≡ false) where
      turned : ◌≡◌ {A = Shed} (next order s (record { core = core; pool = m })) (record { core = d.core; pool = m' })
      turned = ap (λ (x : ℕ). shed_after order s (record { core = core; pool = m }) x) (sym is) ∙ (λ i. record { core = (sym f.0 i).core; pool = sym f.1 i })

      turn : (count_of (record { core = d.core; pool = m' }) ≡ suc (value_of core.deliveries)) × After order s (shed_made order s p) (record { core = d.core; pool = m' })
      turn = subst (λ (S : Shed). (count_of S ≡ suc (value_of core.deliveries)) × After order s (shed_made order s p) S) turned (after_next order s p made (record { core = core; pool = m }) from_making st)

      pub reached_next : Reached d.core m'
      reached_next = subst (λ (S₀ : Shed). After order s S₀ (record { core = d.core; pool = m' })) (sym start_is) turn.1

      pub measure_falls : most (instance_of s) - value_of d.core.deliveries < most (instance_of s) - value_of core.deliveries
      measure_falls = omega (arith, turn.0, after_bounded order s p made (record { core = d.core; pool = m' }) turn.1)
