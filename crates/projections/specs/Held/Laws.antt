-- Each held cost has a place of its own: own costs before pair costs, units and pairs in order, no two at one place. By which of two comes first.
-- Assumes nothing.
use Rattle.std.specs.Prelude.{ℕ, suc, ◌+◌, ◌*◌, ◌-◌, ◌≤◌, ◌<◌, ◌≡◌, refl, Bool, true, false, ltb}
use Rattle.std.proofs.Common.{ap, ◌∙◌, arith, mul-le-mul, le_refl, ltb-true, ltb-false, lt-ltb, le-ltb}
use Rattle.base.specs.Sums.{sum_from, sum_to}
use Rattle.base.specs.Sums.Laws.{sum_to_mono}
use Rattle.costs.specs.Instance.{pair_start, in_pair}
use Rattle.costs.specs.Laws.Stream.{in_pair_lt, pair_end, pair_inside}
use Rattle.projections.specs.Held.{own_at, pair_at, with_at, cost_count}

-- x is a value of a unit of d values
abbrev pub InDom : ℕ → ℕ → Type 0
InDom d x = (1 ≤ x) × (x ≤ d)

-- ---- own costs

module _ (dom : ℕ → ℕ) where
  -- those of unit i end where the next unit's begin
  own_end : (i k v : ℕ) → InDom (dom i) v → i < k → own_at dom i v < sum_to dom k
  own_end i k v r h = omega (arith, r.0, r.1, sum_to_mono dom (suc i) k h)

  pub own_inside : (n i v : ℕ) → i < n → InDom (dom i) v → own_at dom i v < sum_to dom n
  own_inside n i v h r = own_end i n v r h

  pub own_once : (i k v w : ℕ) → InDom (dom i) v → InDom (dom k) w → own_at dom i v ≡ own_at dom k w → (i ≡ k) × (v ≡ w)
  own_once i k v w r q e = go (ltb i k) (ltb k i) refl refl
    where
      go : (s t : Bool) → ltb i k ≡ s → ltb k i ≡ t → (i ≡ k) × (v ≡ w)
      go true t a b = absurd (omega (arith, own_end i k v r (ltb-true i k a)))
      go false true a b = absurd (omega (arith, own_end k i w q (ltb-true k i b)))
      go false false a b =
          let m : i ≡ k = omega (arith, ltb-false i k a, ltb-false k i b) in
          let z : sum_to dom i ≡ sum_to dom k = ap (λ (x : ℕ). sum_to dom x) m in
          (m, omega (arith, r.0, q.0))

-- ---- pair costs

in_pair_once : (d u v x y : ℕ) → 1 ≤ u → 1 ≤ x → InDom d v → InDom d y → in_pair d u v ≡ in_pair d x y → (u ≡ x) × (v ≡ y)
in_pair_once d u v x y u1 x1 r q e = go (ltb u x) (ltb x u) refl refl
  where
    go : (s t : Bool) → ltb u x ≡ s → ltb x u ≡ t → (u ≡ x) × (v ≡ y)
    go true t a b =
        let w : suc (u - 1) ≤ x - 1 = omega (arith, ltb-true u x a) in
        absurd (omega (arith, r.0, r.1, q.0, q.1, mul-le-mul w (le_refl d)))
    go false true a b =
        let w : suc (x - 1) ≤ u - 1 = omega (arith, ltb-true x u b) in
        absurd (omega (arith, r.0, r.1, q.0, q.1, mul-le-mul w (le_refl d)))
    go false false a b =
        let m : u ≡ x = omega (arith, ltb-false u x a, ltb-false x u b) in
        let z : (u - 1) * d ≡ (x - 1) * d = ap (λ (k : ℕ). (k - 1) * d) m in
        (m, omega (arith, r.0, q.0))

module _ (dom : ℕ → ℕ) (n : ℕ) where
  -- the costs of a pair end before those of a later one begin
  later_row : (i j a b : ℕ) → i < j → j < n → i < a → pair_start dom n i j + dom i * dom j ≤ pair_start dom n a b
  later_row i j a b h m l = omega (arith, pair_end dom n i j h m, sum_to_mono (λ k. dom k * sum_from dom (suc k) (n - suc k)) (suc i) a l)

  later_pair : (i j b : ℕ) → i < j → j < b → pair_start dom n i j + dom i * dom j ≤ pair_start dom n i b
  later_pair i j b h l = omega (arith, pair_end dom b i j h l)

  pub pair_behind : (i u j v : ℕ) → sum_to dom n ≤ pair_at dom n i u j v
  pair_behind i u j v = omega arith

  pub pair_there : (i u j v : ℕ) → i < j → j < n → InDom (dom i) u → InDom (dom j) v → pair_at dom n i u j v < cost_count dom n
  pair_there i u j v h m r q = omega (arith, pair_inside dom n i j h m, in_pair_lt (dom i) (dom j) u v r.0 r.1 q.0 q.1)

  module _ (i u j v a x b y : ℕ) (h : i < j) (m : j < n) (l : a < b) (o : b < n) (hu : InDom (dom i) u) (hv : InDom (dom j) v) (hx : InDom (dom a) x) (hy : InDom (dom b) y)
      (e : pair_at dom n i u j v ≡ pair_at dom n a x b y) where
    inner : in_pair (dom j) u v < dom i * dom j
    inner = in_pair_lt (dom i) (dom j) u v hu.0 hu.1 hv.0 hv.1

    outer : in_pair (dom b) x y < dom a * dom b
    outer = in_pair_lt (dom a) (dom b) x y hx.0 hx.1 hy.0 hy.1

    same_row : i ≡ a
    same_row = go (ltb i a) (ltb a i) refl refl
      where
        go : (s t : Bool) → ltb i a ≡ s → ltb a i ≡ t → i ≡ a
        go true t p q = absurd (omega (arith, inner, later_row i j a b h m (ltb-true i a p)))
        go false true p q = absurd (omega (arith, outer, later_row a b i j l o (ltb-true a i q)))
        go false false p q = omega (arith, ltb-false i a p, ltb-false a i q)

    same_pair : j ≡ b
    same_pair = go (ltb j b) (ltb b j) refl refl
      where
        from : (k : ℕ) → pair_start dom n i k ≡ pair_start dom n a k
        from k = ap (λ (z : ℕ). pair_start dom n z k) same_row

        go : (s t : Bool) → ltb j b ≡ s → ltb b j ≡ t → j ≡ b
        go true t p q = absurd (omega (arith, inner, later_pair i j b h (ltb-true j b p), from b))
        go false true p q = absurd (omega (arith, outer, later_pair a b j l (ltb-true b j q), from j))
        go false false p q = omega (arith, ltb-false j b p, ltb-false b j q)

    -- no two at one place
    pub pair_once : (i ≡ a) × (j ≡ b) × (u ≡ x) × (v ≡ y)
    pair_once =
        let r : pair_start dom n i j ≡ pair_start dom n a b = ap (λ (z : ℕ). pair_start dom n z j) same_row ∙ ap (λ (z : ℕ). pair_start dom n a z) same_pair in
        let d : dom j ≡ dom b = ap dom same_pair in
        let f : in_pair (dom j) x y ≡ in_pair (dom b) x y = ap (λ (z : ℕ). in_pair z x y) d in
        let w : InDom (dom j) y = rw d hy in
        let g : in_pair (dom j) u v ≡ in_pair (dom j) x y = omega arith in
        let k = in_pair_once (dom j) u v x y hu.0 hx.0 hv w g in
        (same_row, same_pair, k.0, k.1)

-- ---- with any other unit

module _ (dom : ℕ → ℕ) (n i u j v : ℕ) where
  pub with_later : i < j → with_at dom n i u j v ≡ pair_at dom n i u j v
  with_later h = rw (lt-ltb i j h)

  pub with_earlier : j < i → with_at dom n i u j v ≡ pair_at dom n j v i u
  with_earlier h = let q : j ≤ i = omega arith in rw (le-ltb i j q)
