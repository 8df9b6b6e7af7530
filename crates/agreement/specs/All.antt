-- Shed, full search and branch and bound give the same total of every table that the full search takes, and so of every tiny one: as many agree as
-- there are. By bench_and_shed and bench_and_slots of report/specs/Agree, of runs that have come to their end. Assumes nothing.
use Rattle.std.specs.Prelude.{ℕ, zero, suc, ◌<◌, ◌≡◌, Bool, false, cond, List, ltb, replicate, Some}
use Rattle.std.proofs.Math.Path.{refl, sym, ap}
use Rattle.std.proofs.Common.{◌∙◌, arith, eq-eqb}
use Rattle.std.proofs.Math.Bool.{true}
use Rattle.std.proofs.lemmas.List.{length-replicate}
use Rattle.base.specs.Limits.{pool_size, search_limit}
use Rattle.base.specs.Sums.{sum_to}
use Rattle.table.specs.Stream.{Accepted, opening}
use Rattle.costs.specs.declared.ValueOrder.{ValueOrder}
use Rattle.costs.specs.Instance.{instance_of}
use Rattle.search.specs.Search.{assignment_count, search_refusal, search_of, branch_and_bound_of}
use Rattle.search.specs.Laws.{searched, search_refusal_lem, bounded_is_search}
use Rattle.rules.specs.Units.{unit_at}
use Rattle.runs.specs.Demand3.{Made, over, shed_of, report_of}
use Rattle.runs.specs.Settle.{settle_of, unless_unmade}
use Rattle.runs.proofs.Settle.Laws.{settle_ends}
use Rattle.runs.specs.Made.{accepted-made}
use Rattle.slots.specs.Slot.{slot_pool_size}
use Rattle.slots.specs.Demand3 as SD
use Rattle.slots.specs.Settle as S
use Rattle.slots.specs.Settle.Laws as SL
use Rattle.slots.specs.Made as SM
use Rattle.report.specs.Agree.{bench_and_shed, bench_and_slots}
use Rattle.tiny.specs.Tiny.{is_tiny, tables_of, tiny_stream}
use Rattle.tiny.specs.Once.{two_or_three, none_of_another}
use Rattle.tiny.proofs.Once.{each_once}
use Rattle.agreement.specs.declared.Pool.{Pool}
use Rattle.agreement.specs.declared.Pool.TheVariants.{Messages, Slots}
use Rattle.agreement.specs.Agreement.{unless_refused, messages_total, slots_total, shed_total, found_total, agree_of, agreeing_of}

total_by : (refusal total m : ℕ) → refusal ≡ 0 → total ≡ m → unless_refused refusal total ≡ Some m
total_by refusal total m e f = rw (e, f)

-- ---- a table that the full search takes

module _ (order : ValueOrder) (s : List ℕ) (taken : search_refusal s ≡ 0) where
  ok : Accepted s
  ok = (searched s taken).0

  -- over 01's pool
  made : Made order s (replicate pool_size 0)
  made = accepted-made order s (replicate pool_size 0) ok (omega (arith, length-replicate {A = ℕ} pool_size 0))

  messages_totals : messages_total order s ≡ Some (branch_and_bound_of s).total
  unfolding messages_total settle_of
  messages_totals =
      let r = (settle_of order s (replicate pool_size 0)).answer in
      total_by r.refusal (unit_at r.network.core.units 0).bound (branch_and_bound_of s).total
      (ap (λ r. (unless_unmade order r s (replicate pool_size 0)).answer.refusal) made)
      (ap (λ r. (report_of (shed_of (unless_unmade order r s (replicate pool_size 0)))).total) made
      ∙ sym (bench_and_shed s ok (branch_and_bound_of s) refl order (replicate pool_size 0) made _ (sym (ap (λ r. over (shed_of (unless_unmade order r s (replicate pool_size 0)))) made) ∙ settle_ends order s (replicate pool_size 0) made)))

  -- over 02's
  slots-made : SD.Made order s (replicate slot_pool_size 0)
  slots-made = SM.accepted-made order s (replicate slot_pool_size 0) ok (omega (arith, length-replicate {A = ℕ} slot_pool_size 0))

  slots_totals : slots_total order s ≡ Some (branch_and_bound_of s).total
  unfolding slots_total S.settle_of
  slots_totals =
      let r = (S.settle_of order s (replicate slot_pool_size 0)).answer in
      total_by r.refusal (unit_at r.core.units 0).bound (branch_and_bound_of s).total
      (ap (λ r. (S.unless_unmade order r s (replicate slot_pool_size 0)).answer.refusal) slots-made)
      (ap (λ r. (SD.report_of (SD.shed_of (S.unless_unmade order r s (replicate slot_pool_size 0)))).total) slots-made
      ∙ sym (bench_and_slots s ok (branch_and_bound_of s) refl order (replicate slot_pool_size 0) slots-made _ (sym (ap (λ r. SD.over (SD.shed_of (S.unless_unmade order r s (replicate slot_pool_size 0)))) slots-made) ∙ SL.settle_ends order s (replicate slot_pool_size 0) slots-made)))

  shed_totals : (pool : Pool) → shed_total pool order s ≡ Some (branch_and_bound_of s).total
  shed_totals Messages = messages_totals
  shed_totals Slots = slots_totals

  -- of a search
  full : branch_and_bound_of s ≡ search_of s
  full = bounded_is_search s taken

  not_refused : (search_of s).refusal ≡ 0
  not_refused = search_refusal_lem s ∙ taken

  full_totals : found_total (search_of s) ≡ Some (branch_and_bound_of s).total
  full_totals = total_by (search_of s).refusal (search_of s).total (branch_and_bound_of s).total not_refused (sym (ap (λ f. f.total) full))

  bounded_totals : found_total (branch_and_bound_of s) ≡ Some (branch_and_bound_of s).total
  bounded_totals = ap found_total full ∙ full_totals

  pub totals_agree : (pool : Pool) → agree_of pool order s ≡ true
  unfolding agree_of
  totals_agree pool = rw (shed_totals pool, full_totals, bounded_totals, eq-eqb (branch_and_bound_of s).total (branch_and_bound_of s).total refl)

-- ---- the tiny tables

-- 2 × 2 assignments, or 2 × 2 × 2
few_assignments : (n : ℕ) → is_tiny n ≡ true → (x : ℕ) → ltb search_limit (assignment_count (instance_of (tiny_stream n x))) ≡ false
unfolding instance_of tiny_stream opening
few_assignments n tiny x = two_or_three n tiny (λ m. ltb search_limit (assignment_count (instance_of (tiny_stream m x))) ≡ false) refl refl

tiny_taken : (n : ℕ) → is_tiny n ≡ true → (x : ℕ) → x < tables_of n → search_refusal (tiny_stream n x) ≡ 0
unfolding search_refusal Accepted
tiny_taken n tiny x h = rw (((each_once n tiny).legal x h).accepted, few_assignments n tiny x)

-- what is counted of all is how many there are
count_all : (p : ℕ → Bool) (m : ℕ) → ((x : ℕ) → x < m → p x ≡ true) → sum_to (λ x. cond (p x) 1 0) m ≡ m
count_all p zero all = refl
count_all p (suc m) all = rw (count_all p m (λ x h. all x (omega arith)), all m (omega arith)) (omega arith)

-- 02: "the three totals agree" on each, however the shed is run
pub all_agree : (pool : Pool) (order : ValueOrder) (n : ℕ) → agreeing_of pool order n ≡ tables_of n
unfolding agreeing_of
all_agree pool order n = go (is_tiny n) refl
  where
    go : (t : Bool) → is_tiny n ≡ t → sum_to (λ x. cond (agree_of pool order (tiny_stream n x)) 1 0) (tables_of n) ≡ tables_of n
    go true tiny = count_all (λ x. agree_of pool order (tiny_stream n x)) (tables_of n) (λ x h. totals_agree order (tiny_stream n x) (tiny_taken n tiny x h) pool)
    go false other = rw (none_of_another n other)
