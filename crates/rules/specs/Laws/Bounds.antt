-- What no step does: a stale message changes nothing and sends nothing; the bound never rises; unit n keeps no CPA.
-- By the clauses of the definitions; for the values tried, by recursion over those left. Assumes nothing.
use Prim.Native.Nat.{ℕ, zero, suc, ◌+◌, ◌≤◌}
use Rattle.std.specs.Prelude.{◌≡◌, Bool, ◌&&◌, List, [], ltb, leb, get_or, replicate}
use Rattle.std.proofs.Math.Path.{refl, ap}
use Rattle.std.proofs.Common.{sym, ◌∙◌}
use Rattle.std.proofs.Math.Bool.{true, false}
use Rattle.std.proofs.lemmas.Bool.{false≢true}
use native.Mathlib.Omega.{arith}
use borrow.Author.Tests.{ltb-true}
use Rattle.base.specs.Shape.Laws.{and_left}
use Rattle.costs.specs.Instance.{View}
use Rattle.costs.specs.Cost.{Cost, ◌⊕◌, below, as_number}
use Rattle.costs.specs.Cost.Laws.{below_part}
use Rattle.costs.specs.Bounds.{h}
use Rattle.costs.specs.Order.{next, left}
use Rattle.message.specs.declared.Message.{Message}
use Rattle.message.specs.declared.Kind.{Kind}
use Rattle.message.specs.declared.Kind.TheVariants.{Cpa, Request, Estimate, Solution, Stop}
use Rattle.rules.specs.declared.Unit.{Unit as State}
use Rattle.std.specs.declared.cmp.Ordering.{Ordering}
use Rattle.std.specs.declared.cmp.Ordering.TheVariants.{Less, Equal, Greater}
use Rattle.rules.specs.declared.Sending.{Sending}
use Rattle.rules.specs.State.{with_threshold, with_best, with_cpa, own_value, compare_on, same_on}
use Rattle.rules.specs.Step.{Decision, refused, accepted, Written, recorded, quiet, take_bound, bare_cost, take_off, backtrack, write, record_of, after_write, try_after, begun, assign, resume, on_down, is_out, is_cpa_out, on_back, on_cpa, on_fresh, on_request, on_own_estimate, on_timely, on_estimate, on_solution, on_stop, by_kind, respond}
use Rattle.rules.specs.Tests.{cost_at, sum_later, stored, silent, is_last, try_value, on_own, take_lower, reached_bound, on_either, reached_by_estimates, unless_stopped}
use Rattle.rules.specs.Send.{packets}
use Rattle.rules.specs.Laws.Assign.{Whenever}

-- ---- stale messages

-- how far a message's stamp is compared; solutions and stops have none
abbrev pub compared_on : View → Kind → ℕ
compared_on w Cpa = suc w.place
compared_on w Request = w.place
compared_on w Estimate = suc w.place
compared_on w Solution = 0
compared_on w Stop = 0

-- 01: "Smaller: stale."
abbrev pub Stale : View → Kind → State → Message → Type 0
Stale w kind u m = compare_on (compared_on w kind) m.stamp u.threshold ≡ Less

none_compared : (a b : List ℕ) → compare_on 0 a b ≡ Less → ⊥
unfolding compare_on
none_compared a b e = let z : ◌≡◌ {A = ℕ} 0 1 = cc in omega arith

module _ (w : View) (u : State) (m : Message) where
  cpa_stale : Stale w Cpa u m → on_cpa w u m ≡ quiet u
  unfolding on_cpa
  cpa_stale e = go (ltb m.sender (suc w.place))
    where
      go : (t : Bool) → on_either w t u m ≡ quiet u
      go true = ap (λ (o : Ordering). on_down w o u m) e
      go false = ap (λ (o : Ordering). on_back w o u m) e

  request_stale : Stale w Request u m → on_request w u m ≡ quiet u
  unfolding on_request
  request_stale e = ap (λ (o : Ordering). on_fresh w o u m) e

  estimate_stale : Stale w Estimate u m → on_estimate w u m ≡ quiet u
  unfolding on_estimate
  estimate_stale e = ap (λ (o : Ordering). on_timely w o u m) e

  by_kind_stale : (kind : Kind) → Stale w kind u m → by_kind w kind u m ≡ quiet u
  by_kind_stale Cpa e = cpa_stale e
  by_kind_stale Request e = request_stale e
  by_kind_stale Estimate e = estimate_stale e
  by_kind_stale Solution e = absurd (none_compared m.stamp u.threshold e)
  by_kind_stale Stop e = absurd (none_compared m.stamp u.threshold e)

  -- 01: "A stale message changes nothing and sends nothing."
  pub stale_changes_nothing : (kind : Kind) → u.stopped ≡ false → Stale w kind u m → respond w kind u m ≡ quiet u
  unfolding respond
  stale_changes_nothing kind s e = ap (λ (b : Bool). unless_stopped b w kind u m) s ∙ by_kind_stale kind e

pub silent_sends_nothing : (n k : ℕ) → packets n k silent ≡ []
unfolding packets
silent_sends_nothing n k = refl

-- ---- the bound never rises

abbrev pub BoundAtMost : ℕ → State → Sending → List Written → Type 0
BoundAtMost B u s ws = u.bound ≤ B

most_of : (B B' : ℕ) → B ≤ B' → (o : Decision) → Whenever (BoundAtMost B) o → Whenever (BoundAtMost B') o
most_of B B' l (refused r) f = tt
most_of B B' l (accepted u s ws) f = omega arith

most_after_lem : (B : ℕ) (r : Written) (o : Decision) → Whenever (BoundAtMost B) o → Whenever (BoundAtMost B) (recorded r o)
most_after_lem B r (refused x) f = tt
most_after_lem B r (accepted u s ws) f = f

-- 01: "news never raises a bound"
pub take_lowers : (m : Message) (u : State) → (take_bound m u).bound ≤ u.bound
take_lowers m u = go (ltb m.bound u.bound) refl
  where
    go : (t : Bool) → ltb m.bound u.bound ≡ t → (take_lower t m.bound m.best u).bound ≤ u.bound
    go true e = omega (arith, ltb-true m.bound u.bound e)
    go false e = omega arith

module _ (w : View) where
  backtrack_lowers : (b : Bool) (u : State) → Whenever (BoundAtMost u.bound) (backtrack w b u)
  unfolding backtrack
  backtrack_lowers b u = omega arith

  -- a value tried, where those after it raise no bound
  module _ (again : Bool → State → Decision) (after : (b : Bool) (u : State) → Whenever (BoundAtMost u.bound) (again b u)) where
    after_write_lowers : (b : Bool) (B : ℕ) (u : State) → u.bound ≤ B → u.cost ≤ B → Whenever (BoundAtMost B) (after_write w b u again)
    after_write_lowers true B u l c =
        let t : State = take_off w (with_best u.cost u.values u) in
        most_after_lem B (record_of w u) (again true t) (most_of u.cost B c (again true t) (after true t))
    after_write_lowers false B u l c = l

    try_lowers : (t : Bool) (v : ℕ) (c : Cost) (b : Bool) (u : State) → below (c ⊕ h w v) u.bound ≡ t → Whenever (BoundAtMost u.bound) (try_value w t v (as_number c) b u again)
    try_lowers true v c b u e = after_write_lowers (is_last w) u.bound (write w v (as_number c) u) (omega arith) (omega (arith, below_part c (h w v) u.bound e))
    try_lowers false v c b u e = after b u

  values-lower : (m v : ℕ) (b : Bool) (u : State) → Whenever (BoundAtMost u.bound) (try_after w m v b u)
  unfolding try_after
  values-lower zero v b u = backtrack_lowers b u
  values-lower (suc m) v b u =
      let c : Cost = cost_at w (next w v) u in
      try_lowers (λ (b : Bool) (t : State). try_after w m (next w v) b t) (λ b t. values-lower m (next w v) b t) (below (c ⊕ h w (next w v)) u.bound) (next w v) c b u refl

  pub assign_lowers : (u : State) → Whenever (BoundAtMost u.bound) (assign w u)
  unfolding assign
  assign_lowers u = values-lower (left w (own_value w u)) (own_value w u) false (begun w u)

  resume_lowers : (u : State) → Whenever (BoundAtMost u.bound) (resume w u)
  unfolding resume
  resume_lowers u = go (leb u.bound (bare_cost w u))
    where
      go : (t : Bool) → Whenever (BoundAtMost u.bound) (reached_bound w t u)
      go true = backtrack_lowers false (take_off w u)
      go false = assign_lowers u

  module _ (u : State) (m : Message) where
    -- a state with u's bound, once the message's is taken
    taken_lowers : (x : State) → x.bound ≡ u.bound → Whenever (BoundAtMost u.bound) (resume w (take_bound m x))
    taken_lowers x e = most_of (take_bound m x).bound u.bound (omega (arith, take_lowers m x)) (resume w (take_bound m x)) (resume_lowers (take_bound m x))

    cpa_lowers : Whenever (BoundAtMost u.bound) (on_cpa w u m)
    unfolding on_cpa
    cpa_lowers = go (ltb m.sender (suc w.place))
      where
        down : (o : Ordering) → Whenever (BoundAtMost u.bound) (on_down w o u m)
        down Less = omega arith
        down Equal = taken_lowers (with_cpa m.stamp m.values m.cost u) refl
        down Greater = taken_lowers (with_cpa m.stamp m.values m.cost (with_threshold m.stamp u)) refl

        own : (t : Bool) → Whenever (BoundAtMost u.bound) (on_own w t u m)
        own true = taken_lowers u refl
        own false = tt

        back : (o : Ordering) → Whenever (BoundAtMost u.bound) (on_back w o u m)
        back Less = omega arith
        back Equal = own (is_cpa_out w u m)
        back Greater = own (is_cpa_out w u m)

        go : (t : Bool) → Whenever (BoundAtMost u.bound) (on_either w t u m)
        go true = down (compare_on (suc w.place) m.stamp u.threshold)
        go false = back (compare_on (suc w.place) m.stamp u.threshold)

    request_lowers : Whenever (BoundAtMost u.bound) (on_request w u m)
    unfolding on_request
    request_lowers = go (compare_on w.place m.stamp u.threshold)
      where
        go : (o : Ordering) → Whenever (BoundAtMost u.bound) (on_fresh w o u m)
        go Less = omega arith
        go Equal = omega arith
        go Greater = omega arith

    estimate_lowers : Whenever (BoundAtMost u.bound) (on_estimate w u m)
    unfolding on_estimate
    estimate_lowers = go (compare_on (suc w.place) m.stamp u.threshold)
      where
        reached : (t : Bool) → Whenever (BoundAtMost u.bound) (reached_by_estimates w t (stored m u))
        reached true = assign_lowers (stored m u)
        reached false = omega arith

        own : (t : Bool) → Whenever (BoundAtMost u.bound) (on_own_estimate w t (stored m u))
        own true = reached (leb u.bound (u.cost + sum_later w (stored m u).estimates))
        own false = tt

        go : (o : Ordering) → Whenever (BoundAtMost u.bound) (on_timely w o u m)
        go Less = omega arith
        go Equal = own (is_out w u && same_on (suc w.place) m.stamp u.stamp)
        go Greater = tt

    pub bound_never_rises : (kind : Kind) → Whenever (BoundAtMost u.bound) (respond w kind u m)
    unfolding respond on_solution on_stop
    bound_never_rises kind = go u.stopped kind
      where
        go : (s : Bool) (t : Kind) → Whenever (BoundAtMost u.bound) (unless_stopped s w t u m)
        go true t = tt
        go false Cpa = cpa_lowers
        go false Request = request_lowers
        go false Estimate = estimate_lowers
        go false Solution = take_lowers m u
        go false Stop = take_lowers m u

-- ---- unit n keeps no CPA

abbrev pub NoneOut : View → State → Sending → List Written → Type 0
NoneOut w u s ws = own_value w u ≡ 0

zeros_everywhere : (n k : ℕ) → get_or {A = ℕ} (replicate n 0) k 0 ≡ 0
zeros_everywhere zero k = refl
zeros_everywhere (suc n) zero = refl
zeros_everywhere (suc n) (suc k) = zeros_everywhere n k

module _ (w : View) (last : is_last w ≡ true) where
  none_after : (r : Written) (o : Decision) → Whenever (NoneOut w) o → Whenever (NoneOut w) (recorded r o)
  none_after r (refused x) f = tt
  none_after r (accepted u s ws) f = f

  backtrack_none : (b : Bool) (u : State) → Whenever (NoneOut w) (backtrack w b u)
  unfolding backtrack
  backtrack_none b u = zeros_everywhere 16 w.place

  module _ (again : Bool → State → Decision) (after : (b : Bool) (u : State) → Whenever (NoneOut w) (again b u)) where
    after_write_none : (b : Bool) → is_last w ≡ b → (u : State) → Whenever (NoneOut w) (after_write w b u again)
    after_write_none true e u = let t : State = take_off w (with_best u.cost u.values u) in none_after (record_of w u) (again true t) (after true t)
    after_write_none false e u = absurd (false≢true (sym e ∙ last))

    try_none : (t : Bool) (v c : ℕ) (b : Bool) (u : State) → Whenever (NoneOut w) (try_value w t v c b u again)
    try_none true v c b u = after_write_none (is_last w) refl (write w v c u)
    try_none false v c b u = after b u

  values_none : (m v : ℕ) (b : Bool) (u : State) → Whenever (NoneOut w) (try_after w m v b u)
  unfolding try_after
  values_none zero v b u = backtrack_none b u
  values_none (suc m) v b u =
      let c : Cost = cost_at w (next w v) u in
      try_none (λ (b : Bool) (t : State). try_after w m (next w v) b t) (λ b t. values_none m (next w v) b t) (below (c ⊕ h w (next w v)) u.bound) (next w v) (as_number c) b u

  resume_none : (u : State) → Whenever (NoneOut w) (resume w u)
  unfolding resume assign
  resume_none u = go (leb u.bound (bare_cost w u))
    where
      go : (t : Bool) → Whenever (NoneOut w) (reached_bound w t u)
      go true = backtrack_none false (take_off w u)
      go false = values_none (left w (own_value w u)) (own_value w u) false (begun w u)

  module _ (u : State) (m : Message) where
    -- a CPA leaves none out, unless it is stale and one was
    cpa_none : (compare_on (suc w.place) m.stamp u.threshold ≡ Less → own_value w u ≡ 0) → Whenever (NoneOut w) (on_cpa w u m)
    unfolding on_cpa
    cpa_none f = go (ltb m.sender (suc w.place))
      where
        own : (t : Bool) → Whenever (NoneOut w) (on_own w t u m)
        own true = resume_none (take_bound m u)
        own false = tt

        down : (o : Ordering) → (o ≡ Less → own_value w u ≡ 0) → Whenever (NoneOut w) (on_down w o u m)
        down Less f = f refl
        down Equal f = resume_none (take_bound m (with_cpa m.stamp m.values m.cost u))
        down Greater f = resume_none (take_bound m (with_cpa m.stamp m.values m.cost (with_threshold m.stamp u)))

        back : (o : Ordering) → (o ≡ Less → own_value w u ≡ 0) → Whenever (NoneOut w) (on_back w o u m)
        back Less f = f refl
        back Equal f = own (is_cpa_out w u m)
        back Greater f = own (is_cpa_out w u m)

        go : (t : Bool) → Whenever (NoneOut w) (on_either w t u m)
        go true = down (compare_on (suc w.place) m.stamp u.threshold) f
        go false = back (compare_on (suc w.place) m.stamp u.threshold) f

    -- a CPA that isn't stale
    pub last_keeps_none : (Stale w Cpa u m → ⊥) → Whenever (NoneOut w) (respond w Cpa u m)
    unfolding respond
    last_keeps_none d = go u.stopped
      where
        go : (s : Bool) → Whenever (NoneOut w) (unless_stopped s w Cpa u m)
        go true = tt
        go false = cpa_none (λ e. absurd (d e))

    module _ (none : own_value w u ≡ 0) where
      request_none : Whenever (NoneOut w) (on_request w u m)
      unfolding on_request
      request_none = go (compare_on w.place m.stamp u.threshold)
        where
          go : (o : Ordering) → Whenever (NoneOut w) (on_fresh w o u m)
          go Less = none
          go Equal = none
          go Greater = none

      estimate_none : Whenever (NoneOut w) (on_estimate w u m)
      unfolding on_estimate
      estimate_none = go (compare_on (suc w.place) m.stamp u.threshold)
        where
          own : (t : Bool) → (is_out w u && same_on (suc w.place) m.stamp u.stamp) ≡ t → Whenever (NoneOut w) (on_own_estimate w t (stored m u))
          own true e = absurd (omega (arith, ltb-true 0 (own_value w u) (and_left _ _ e)))
          own false e = tt

          go : (o : Ordering) → Whenever (NoneOut w) (on_timely w o u m)
          go Less = none
          go Equal = own (is_out w u && same_on (suc w.place) m.stamp u.stamp) refl
          go Greater = tt

      lower_none : (t : Bool) → own_value w (take_lower t m.bound m.best u) ≡ 0
      lower_none true = none
      lower_none false = none

      -- unit n without a CPA stays without
      pub last_stays_without : (kind : Kind) → Whenever (NoneOut w) (respond w kind u m)
      unfolding respond on_solution on_stop
      last_stays_without kind = go u.stopped kind
        where
          go : (s : Bool) (t : Kind) → Whenever (NoneOut w) (unless_stopped s w t u m)
          go true t = tt
          go false Cpa = cpa_none (λ e. none)
          go false Request = request_none
          go false Estimate = estimate_none
          go false Solution = lower_none (ltb m.bound u.bound)
          go false Stop = lower_none (ltb m.bound u.bound)
