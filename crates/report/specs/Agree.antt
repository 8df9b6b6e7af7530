-- Bench and shed, in either order and over either pool, report the same total of a table: each reports the least over the permitted assignments, or NONE.
-- The bench by branch and bound, or exhaustive where it takes the table (`bounded_is_search` of search/specs/Laws).
-- By what a report is (costs/specs/Bounds), of the search's answer and of any run that has ended. Where the shed tries values ascending, the lotting is the same too, as
-- there is only one first (costs/specs/Least).
-- Assumes nothing.
use Rattle.std.specs.Prelude.{◌≡◌, true, List, ℕ}
use Rattle.std.proofs.Common.{◌∙◌}
use Rattle.table.specs.Stream.{Accepted}
use Rattle.costs.specs.declared.ValueOrder.{ValueOrder}
use Rattle.costs.specs.declared.ValueOrder.TheVariants.{Ascending}
use Rattle.costs.specs.Instance.{instance_of}
use Rattle.costs.specs.Bounds.{Reported}
use Rattle.costs.specs.Least.{LeastFirst, Padded}
use Rattle.costs.specs.Laws.Prefix.{reported_same}
use Rattle.search.specs.declared.Found.{Found}
use Rattle.search.specs.Search.{branch_and_bound_of}
use Rattle.search.specs.Laws.{bounded_least-first, bounded_is_least-first}
use Rattle.runs.specs.Demand3.{ShedReport, Made, over, report_of, run_bytes}
use Rattle.runs.proofs.Theorem.{served}
use Rattle.slots.specs.Demand3 as S
use Rattle.slots.specs.Theorem as ST

-- the answer of a search that finds what is reported
abbrev pub finding : ShedReport → Found
finding r = record { refusal = 0; total = r.total; values = r.assignment }

module _ (s : List ℕ) (ok : Accepted s) (found : Found) (is : found ≡ branch_and_bound_of s) where
  -- ---- whatever is reported

  same_total : (r : ShedReport) → Reported (instance_of s) r.total r.assignment → found.total ≡ r.total
  same_total r reported = rw is (reported_same (instance_of s) _ _ _ _ (bounded_least-first s ok).reported reported)

  same_lotting : (r : ShedReport) → LeastFirst Ascending (instance_of s) r.total r.assignment × Padded (instance_of s).n r.assignment → found ≡ finding r
  same_lotting r l = is ∙ bounded_is_least-first s ok _ _ l.0 l.1

  -- ---- over 01's pool

  pub bench_and_shed : (order : ValueOrder) (pool : List ℕ) → Made order s pool → (cells : List ℕ) → over (run_bytes order s pool cells) ≡ true
      → found.total ≡ (report_of (run_bytes order s pool cells)).total
  bench_and_shed order pool made cells ended = same_total _ ((served order s pool made cells).reported ended)

  pub bench_and_shed_lotting : (pool : List ℕ) → Made Ascending s pool → (cells : List ℕ) → over (run_bytes Ascending s pool cells) ≡ true → found ≡ finding (report_of (run_bytes Ascending s pool cells))
  bench_and_shed_lotting pool made cells ended = same_lotting _ ((served Ascending s pool made cells).lotting ended)

  -- ---- over 02's

  pub bench_and_slots : (order : ValueOrder) (pool : List ℕ) → S.Made order s pool → (cells : List ℕ) → S.over (S.run_bytes order s pool cells) ≡ true
      → found.total ≡ (S.report_of (S.run_bytes order s pool cells)).total
  bench_and_slots order pool made cells ended = same_total _ ((ST.served order s pool made cells).reported ended)

  pub bench_and_slots_lotting : (pool : List ℕ) → S.Made Ascending s pool → (cells : List ℕ) → S.over (S.run_bytes Ascending s pool cells) ≡ true
      → found ≡ finding (S.report_of (S.run_bytes Ascending s pool cells))
  bench_and_slots_lotting pool made cells ended = same_lotting _ ((ST.served Ascending s pool made cells).lotting ended)
