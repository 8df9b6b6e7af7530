-- Two tables of one shape, and by how much costs are lowered and raised from the one to the other. 02, job 12: "for two tables of the same n, sizes
-- and barred marks the ends add up: lowerings for the lower end, raises for the upper." In order: which cost; tables of one shape; lowerings and
-- raises; two tables that differ in one cost. Units count from 0, as in costs/specs/Instance. Assumes nothing.
use Rattle.std.specs.Prelude.{ℕ, ◌+◌, ◌-◌, ◌≤◌, ◌<◌, ◌≡◌, ◌≢◌, Some, None}
use Rattle.base.specs.Sums.{sum_from, sum_to}
use Rattle.costs.specs.{Cost.Cost, Instance.Instance}

-- ---- which cost

-- of value v of unit k alone; or of value u of unit i with value v of a later unit j
pub data Which : Type 0 where
  Unary : (k v : ℕ) → Which
  Pair : (i u j v : ℕ) → Which

abbrev pub cost_at : Instance → Which → Cost
cost_at I (Unary k v) = Some (I.unary k v)
cost_at I (Pair i u j v) = I.cost i u j v

-- it is one of the table's
abbrev pub There : Instance → Which → Type 0
There I (Unary k v) = (k < I.n) × (1 ≤ v) × (v ≤ I.dom k)
There I (Pair i u j v) = (i < j) × (j < I.n) × (1 ≤ u) × (u ≤ I.dom i) × (1 ≤ v) × (v ≤ I.dom j)

-- ---- "two tables of the same n, sizes and barred marks"

pub record SameShape (I J : Instance) : Type 0 where
  pub units : J.n ≡ I.n
  pub sizes : (k : ℕ) → k < I.n → J.dom k ≡ I.dom k
  pub forbidden : (w : Which) → There I w → cost_at I w ≡ None → cost_at J w ≡ None
  pub only_forbidden : (w : Which) → There I w → cost_at J w ≡ None → cost_at I w ≡ None

-- ---- lowerings and raises

-- from the first cost to the second. "Barred marks are neither raised nor lowered"
abbrev pub lowered_by : Cost → Cost → ℕ
lowered_by (Some x) (Some y) = x - y
lowered_by (Some x) None = 0
lowered_by None d = 0

abbrev pub raised_by : Cost → Cost → ℕ
raised_by c d = lowered_by d c

-- the sum of f 1, .., f d: over the values of a unit of d values
abbrev pub over_values : (ℕ → ℕ) → ℕ → ℕ
over_values f d = sum_from f 1 d

-- the sum over all costs of a table: for each value of each unit its unary cost, and its costs with all values of the units before
abbrev pub over_costs : Instance → (Which → ℕ) → ℕ
over_costs I f = sum_to (λ j. over_values (λ v. f (Unary j v) + sum_to (λ i. over_values (λ u. f (Pair i u j v)) (I.dom i)) j) (I.dom j)) I.n

abbrev pub lowerings : Instance → Instance → ℕ
lowerings I J = over_costs I (λ w. lowered_by (cost_at I w) (cost_at J w))

abbrev pub raises : Instance → Instance → ℕ
raises I J = over_costs I (λ w. raised_by (cost_at I w) (cost_at J w))

-- ---- one retest: of all costs only this one is another, `old` in the first table and `new` in the second

pub record OneCost (I J : Instance) (w : Which) (old new : ℕ) : Type 0 where
  pub units : J.n ≡ I.n
  pub sizes : (k : ℕ) → k < I.n → J.dom k ≡ I.dom k
  pub was : cost_at I w ≡ Some old
  pub becomes : cost_at J w ≡ Some new
  pub others : (x : Which) → There I x → x ≢ w → cost_at J x ≡ cost_at I x
