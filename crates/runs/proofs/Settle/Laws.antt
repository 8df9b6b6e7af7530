-- The loop that runs a network to its end does what `settle_of` says. None of its deliveries is refused, as oldest first never fills the pool.
-- In order: what holds after each of these deliveries (`After`), and how it ends; the turns of the loop.
-- Assumes nothing.
use Rattle.std.specs.Prelude.{ℕ, zero, suc, ◌-◌, ◌≤◌, ◌<◌, ◌≡◌, refl, true, false, List, []}
use Rattle.std.proofs.Common.{sym, ◌∙◌, arith}
use Rattle.std.proofs.Math.Path.{ap, subst}
use Rattle.table.specs.Stream.{Accepted}
use Rattle.costs.specs.declared.ValueOrder.{ValueOrder}
use Rattle.costs.specs.Instance.{instance_of}
use Rattle.runs.specs.declared.Network.{Network}
use Rattle.runs.specs.declared.Answer.{Answer}
use Rattle.runs.specs.Count.{value_of}
use Rattle.runs.specs.Calls.{Result, make_of, deliver_of}
use Rattle.runs.specs.Deliveries.{deliver_all, accepted_in}
use Rattle.runs.specs.Deliveries.Ending as E
use Rattle.runs.specs.Demand3.{Shed, shed_of, shed_made, shed_after, run_bytes, refusal_at, delivery, Made, most, over}
use Rattle.runs.proofs.Steps.Making.{accepted-table}
use Rattle.runs.proofs.Theorem.{served, one_counted, oldest_accepted, oldest_ends, stopped_stays}
use Rattle.runs.specs.Settle.{cell_zero, settled, unless_unmade, settle_of}
use Rattle.runs.specs.Settle.Laws.{After, Begun}

-- ---- after some deliveries of cell 0, all accepted, from the shed S₀ on

abbrev count_of : Shed → ℕ
count_of S = value_of S.network.core.deliveries

-- one more
one_more : (order : ValueOrder) (s : List ℕ) (S : Shed) (k : ℕ) → deliver_all (delivery order s) S (cell_zero (suc k)) ≡ shed_after order s (deliver_all (delivery order s) S (cell_zero k)) 0
unfolding deliver_all
one_more order s S zero = refl
one_more order s S (suc k) = one_more order s (shed_after order s S 0) k

module _ (order : ValueOrder) (s pool : List ℕ) (made : Made order s pool) where
  after_making : After order s (shed_made order s pool) (shed_made order s pool)
  unfolding run_bytes deliver_all accepted_in
  after_making = ap (λ k. deliver_all (delivery order s) (shed_made order s pool) (cell_zero k)) (sym (served order s pool made []).deliveries)

  promise : E.Promise (delivery order s) (shed_made order s pool) over count_of (most (instance_of s))
  unfolding run_bytes
  promise =
      record {
        bounded = λ cs. let v = served order s pool made cs in subst (λ x. x ≤ most (instance_of s)) (sym v.deliveries) v.bounded;
        counted = one_counted order s pool made;
        stays = stopped_stays order s pool made;
      }

  accepts : (k : ℕ) → over (deliver_all (delivery order s) (shed_made order s pool) (cell_zero k)) ≡ false → refusal_at order s (deliver_all (delivery order s) (shed_made order s pool) (cell_zero k)) 0 ≡ 0
  unfolding run_bytes
  accepts = oldest_accepted order s pool made

  module _ (S : Shed) (a : After order s (shed_made order s pool) S) where
    -- no run accepts more than (3n - 1) × N
    after_bounded : count_of S ≤ most (instance_of s)
    after_bounded = E.after_bounded (delivery order s) (shed_made order s pool) over count_of (λ S. 0) (most (instance_of s)) promise cell_zero (one_more order s (shed_made order s pool)) accepts S a

    -- until unit 1 stops one more is accepted
    after_accepted : over S ≡ false → refusal_at order s S 0 ≡ 0
    after_accepted = E.after_accepted (delivery order s) (shed_made order s pool) over count_of (λ S. 0) (most (instance_of s)) promise cell_zero (one_more order s (shed_made order s pool)) accepts S a

    after_next : over S ≡ false → (count_of (shed_after order s S 0) ≡ suc (count_of S)) × After order s (shed_made order s pool) (shed_after order s S 0)
    after_next st = (
      E.after_counted (delivery order s) (shed_made order s pool) over count_of (λ S. 0) (most (instance_of s)) promise cell_zero (one_more order s (shed_made order s pool)) accepts S a st,
      E.after_next (delivery order s) (shed_made order s pool) over count_of (λ S. 0) (most (instance_of s)) promise cell_zero (one_more order s (shed_made order s pool)) accepts S a st,
    )

    pub settles_stopped : over S ≡ true → settle_of order s pool ≡ settled S
    unfolding settle_of run_bytes
    settles_stopped st =
        ap (λ r. unless_unmade order r s pool) made
        ∙ ap settled (E.after_all (delivery order s) (shed_made order s pool) over count_of (λ S. 0) (most (instance_of s)) promise cell_zero (one_more order s (shed_made order s pool)) accepts S a st)

  -- the network that is handed back has come to its end
  pub settle_ends : over (shed_of (settle_of order s pool)) ≡ true
  unfolding settle_of
  settle_ends = ap (λ r. over (shed_of (unless_unmade order r s pool))) made ∙ oldest_ends order s pool made

-- ---- the turns of the loop that does it

-- making refused: nothing more is done
pub settle_unmade : (order : ValueOrder) (s p : List ℕ) (a : Answer) (l : List ℕ) → (a ≡ (make_of order s p).answer) × (l ≡ (make_of order s p).pool) → (a.refusal ≡ 0 → ⊥) → (a ≡ (settle_of order s p).answer) × (l ≡ (settle_of order s p).pool)
unfolding settle_of
settle_unmade order s p a l e ne = go (make_of order s p).answer.refusal (λ z. ne (ap (λ (x : Answer). x.refusal) e.0 ∙ z))
  where
    go : (r : ℕ) → (r ≡ 0 → ⊥) → (a ≡ (unless_unmade order r s p).answer) × (l ≡ (unless_unmade order r s p).pool)
    go zero h = absurd (h refl)
    go (suc r) h = e

pub begun_by : (order : ValueOrder) (s p : List ℕ) (a : Answer) (l : List ℕ) → (a ≡ (make_of order s p).answer) × (l ≡ (make_of order s p).pool) → a.refusal ≡ 0 → Begun order s a.network l
begun_by order s p a l e z = record { pool = p; gave = (ap (λ (r : ℕ). record { refusal = r; network = a.network }) (sym z) ∙ e.0, e.1) }

-- making gave a and the pool l; now the network is net and the pool is m
module _ (order : ValueOrder) (s p : List ℕ) (a : Answer) (l : List ℕ) (e : (a ≡ (make_of order s p).answer) × (l ≡ (make_of order s p).pool)) (z : a.refusal ≡ 0) where
  abbrev pub Reached : Network → List ℕ → Type 0
  Reached net m = After order s (record { network = a.network; pool = l }) (record { network = net; pool = m })

  made : Made order s p
  made = ap (λ (x : Answer). x.refusal) (sym e.0) ∙ z

  pub made_table : Accepted s
  made_table = accepted-table order s p made

  start_is : ◌≡◌ {A = Shed} (record { network = a.network; pool = l }) (shed_made order s p)
  start_is = λ i. record { network = (e.0 i).network; pool = e.1 i }

  pub reached_start : Reached a.network l
  reached_start = subst (λ (S₀ : Shed). After order s S₀ S₀) (sym start_is) (after_making order s p made)

  module _ (net : Network) (m : List ℕ) (r : Reached net m) where
    from_making : After order s (shed_made order s p) (record { network = net; pool = m })
    from_making = subst (λ (S₀ : Shed). After order s S₀ (record { network = net; pool = m })) start_is r

    -- unit 1 has stopped
    pub settle-stopped : over (record { network = net; pool = m }) ≡ true → (record { refusal = 0; network = net } ≡ (settle_of order s p).answer) × (m ≡ (settle_of order s p).pool)
    settle-stopped st =
        let q = settles_stopped order s p made (record { network = net; pool = m }) from_making st in
        (ap (λ (x : Result). x.answer) (sym q), ap (λ (x : Result). x.pool) (sym q))

    -- it has not, so the next delivery is accepted
    pub reached_accepted : over (record { network = net; pool = m }) ≡ false → (deliver_of order net s m 0).answer.refusal ≡ 0
    reached_accepted st = after_accepted order s p made (record { network = net; pool = m }) from_making st

    -- it has not, and the next delivery gave d and left the pool m'
    module _ (d : Answer) (m' : List ℕ) (f : (d ≡ (deliver_of order net s m 0).answer) × (m' ≡ (deliver_of order net s m 0).pool)) (st : over (record { network = net; pool = m }) ≡ false) where
      next : (count_of (record { network = d.network; pool = m' }) ≡ suc (value_of net.core.deliveries)) × After order s (shed_made order s p) (record { network = d.network; pool = m' })
      next =
          subst (λ (S : Shed). (count_of S ≡ suc (value_of net.core.deliveries)) × After order s (shed_made order s p) S) (λ i. record { network = (sym f.0 i).network; pool = sym f.1 i })
          (after_next order s p made (record { network = net; pool = m }) from_making st)

      pub reached_next : Reached d.network m'
      reached_next = subst (λ (S₀ : Shed). After order s S₀ (record { network = d.network; pool = m' })) (sym start_is) next.1

      pub measure_falls : most (instance_of s) - value_of d.network.core.deliveries < most (instance_of s) - value_of net.core.deliveries
      measure_falls = omega (arith, next.0, after_bounded order s p made (record { network = d.network; pool = m' }) next.1)
