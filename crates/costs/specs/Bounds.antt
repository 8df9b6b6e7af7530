-- What a unit works out from its view: the cost of a value with a prefix, h, the estimate; and assignments, their totals and what is reported of
-- them. Each cost is a number or forbidden (Cost.antt). Assumes nothing.
use Rattle.std.specs.Prelude.{ℕ, zero, suc, ◌*◌, ◌-◌, ◌≤◌, ◌<◌, ◌≡◌, ◌≢◌, ◌⊎◌, List, get_or, Some, None}
use Rattle.base.specs.Limits.{NONE}
use Rattle.base.specs.Sums as Number
use Rattle.costs.specs.Cost.{Cost, ◌⊕◌, sum_to, least, as_number}
use Rattle.costs.specs.Instance.{Instance, View}

-- the cost of own value v, alone and with the values of the first k units. 02, job 7: an own cost "counts when the value is written, in
-- estimates and in totals"
unfoldable pub cost_with : View → List ℕ → ℕ → ℕ → Cost
cost_with w values k v = Some (w.unary v) ⊕ sum_to (λ j. w.pair j (get_or values j 0) v) k

-- 01: "h(v)", by `lookahead` of Instance
unfoldable pub h : View → ℕ → Cost
h w v = w.ahead v

-- 01: "the least, over own values v, of costs to the filled units plus h(v)", k units filled; forbidden where no value is left.
-- A message carries it as a number.
unfoldable pub estimate : View → List ℕ → ℕ → Cost
estimate w values k = least (λ v. cost_with w values k v ⊕ h w v) (w.dom w.place)

-- ---- assignments, 01: "lotting"; a list's first n places

-- 01: "A full lotting gives each of the n units one of its values"
abbrev pub Valued : Instance → List ℕ → Type 0
Valued I l = (k : ℕ) → k < I.n → (1 ≤ get_or l k 0) × (get_or l k 0 ≤ I.dom k)

-- 02: "A lotting with a barred pair isn't a lotting."
abbrev pub Permitted : Instance → List ℕ → Type 0
Permitted I l = (i j : ℕ) → i < j → j < I.n → I.cost i (get_or l i 0) j (get_or l j 0) ≢ None

abbrev pub Assignment : Instance → List ℕ → Type 0
Assignment I l = Valued I l × Permitted I l

-- 01: "its total is the sum over all pairs", and since 02, job 7, of what each unit's value costs alone
unfoldable pub total : Instance → List ℕ → Cost
total I l = sum_to (λ k. Some (I.unary k (get_or l k 0)) ⊕ sum_to (λ i. I.cost i (get_or l i 0) k (get_or l k 0)) k) I.n

-- 02: "The report is the least over permitted lottings, or *none* if there isn't one", and then "*none* with best all zero"
abbrev pub Reported : Instance → ℕ → List ℕ → Type 0
Reported I B best =
    ((B ≡ NONE) × ((k : ℕ) → get_or best k 0 ≡ 0) × ((l : List ℕ) → Assignment I l → ⊥))
    ⊎ (Assignment I best × (total I best ≡ Some B) × ((l : List ℕ) → Assignment I l → B ≤ as_number (total I l)))

-- ---- beginnings, 01: "the values of units 1 to i"

-- how many of k units there are, by the domain sizes: d(1) × .. × d(k)
abbrev pub prefix_count : (ℕ → ℕ) → ℕ → ℕ
prefix_count dom zero = 1
prefix_count dom (suc k) = prefix_count dom k * dom k

-- 01: "N is d(1) + d(1) × d(2) + .. up to d(1) × .. × d(n-1); 0 for n = 1"
abbrev pub N : Instance → ℕ
N I = Number.sum_to (λ k. prefix_count I.dom (suc k)) (I.n - 1)
