-- Whether shed and bench total the same of a table, and of how many tiny tables. Document 02, job 13: "Each goes through shed, full search and branch
-- and bound, and the three totals agree; a program prints how many did". That all do is in All. Assumes nothing.
use Rattle.std.specs.Prelude.{ℕ, Bool, false, cond, ◌&&◌, List, eqb, replicate, Option, Some, None}
use Rattle.base.specs.{Limits.pool_size, Sums.sum_to}
use Rattle.costs.specs.declared.ValueOrder.{ValueOrder}
use Rattle.search.specs.{declared.Found.Found, Search.search_of, Search.branch_and_bound_of}
use Rattle.rules.specs.Units.{unit_at}
use Rattle.runs.specs.{declared.Core.Core, Settle.settle_of}
use Rattle.slots.specs.Slot.{slot_pool_size}
use Rattle.slots.specs.Settle as S
use Rattle.tiny.specs.Tiny.{tables_of, tiny_stream}
use Rattle.agreement.specs.declared.Pool.{Pool}
use Rattle.agreement.specs.declared.Pool.TheVariants.{Messages, Slots}

-- ---- what each totals: none where it refuses

abbrev pub unless_refused : ℕ → ℕ → Option ℕ
unless_refused refusal total = cond (eqb refusal 0) (Some total) None

abbrev pub first_total : ℕ → Core → Option ℕ
first_total refusal core = unless_refused refusal (unit_at core.units 0).bound

-- of a shed, what box 1 holds at the end of the run, in a pool of zeros
unfoldable pub messages_total : ValueOrder → List ℕ → Option ℕ
messages_total order s = let r = (settle_of order s (replicate pool_size 0)).answer in first_total r.refusal r.network.core

unfoldable pub slots_total : ValueOrder → List ℕ → Option ℕ
slots_total order s = let r = (S.settle_of order s (replicate slot_pool_size 0)).answer in first_total r.refusal r.core

abbrev pub shed_total : Pool → ValueOrder → List ℕ → Option ℕ
shed_total Messages order s = messages_total order s
shed_total Slots order s = slots_total order s

-- of a search
abbrev pub found_total : Found → Option ℕ
found_total f = unless_refused f.refusal f.total

-- ---- that they agree

-- neither is refused, and the totals are the same
abbrev pub same_total : Option ℕ → Option ℕ → Bool
same_total (Some a) (Some b) = eqb a b
same_total (Some a) None = false
same_total None b = false

-- 02: "the three totals agree"
unfoldable pub agree_of : Pool → ValueOrder → List ℕ → Bool
agree_of pool order s =
    let full = found_total (search_of s) in
    same_total (shed_total pool order s) full && same_total full (found_total (branch_and_bound_of s))

-- 02: "how many did"
unfoldable pub agreeing_of : Pool → ValueOrder → ℕ → ℕ
agreeing_of pool order n = sum_to (λ x. cond (agree_of pool order (tiny_stream n x)) 1 0) (tables_of n)
