-- One walk through what a unit decides: what holds of each way that a decision ends, holds of the decision.
-- By the tests of each definition. Assumes nothing.
use Prim.Native.Nat.{ℕ, zero, suc, ◌+◌, ◌≤◌}
use Rattle.std.specs.Prelude.{◌≡◌, refl, Bool, ◌&&◌, [], ◌∷◌, ltb, leb}
use Rattle.std.proofs.Math.Bool.{true, false}
use Rattle.std.proofs.Common.{arith}
use Rattle.costs.specs.Cost.{◌⊕◌, below, as_number}
use Rattle.costs.specs.Instance.{View}
use Rattle.costs.specs.Bounds.{h}
use Rattle.costs.specs.Order.{next, left}
use Rattle.message.specs.declared.Message.{Message}
use Rattle.message.specs.declared.Kind.{Kind}
use Rattle.message.specs.declared.Kind.TheVariants.{Cpa, Request, Estimate, Solution, Stop}
use Rattle.rules.specs.declared.Unit.{Unit as State}
use Rattle.std.specs.declared.cmp.Ordering.{Ordering}
use Rattle.std.specs.declared.cmp.Ordering.TheVariants.{Less, Equal, Greater}
use Rattle.rules.specs.declared.Plan.TheVariants.{Forward}
use Rattle.rules.specs.State.{own_value, compare_on, same_on, with_best, with_threshold, with_stopped}
use Rattle.rules.specs.Step.{Decision, refused, accepted, Written, recorded, quiet, take_bound, take_off, begun, record_of, write, carried, after_write, try_after, assign, backtrack, bare_cost, resume, received, on_down, is_cpa_out, on_back, on_cpa, reply, on_fresh, on_request, is_out, on_own_estimate, on_timely, on_estimate, on_solution, on_stop, by_kind, respond}
use Rattle.rules.specs.Tests.{cost_at, is_last, try_value, reached_bound, on_own, on_either, sum_later, stored, reached_by_estimates, unless_stopped}

-- ---- assigning: the cpa goes on, or back, after more records; only the last unit improves

module _ (w : View) (P : Decision → Type 0) (goes : (u : State) → P (accepted u (record { plan = Forward; improved = false; message = carried w u }) (record_of w u ∷ [])))
    (backs : (b : Bool) (u : State) → (b ≡ true → is_last w ≡ true) → P (backtrack w b u)) (more : (r : Written) (o : Decision) → P o → P (recorded r o)) where
  -- a value written, with what follows
  written_by : (t : Bool) → is_last w ≡ t → (u : State) (again : Bool → State → Decision) → ((b : Bool) (t : State) → (b ≡ true → is_last w ≡ true) → P (again b t)) → P (after_write w t u again)
  written_by true e u again f = let s : State = take_off w (with_best u.cost u.values u) in more (record_of w u) (again true s) (f true s (λ z. e))
  written_by false e u again f = goes u

  value_by : (t : Bool) (v c : ℕ) (b : Bool) (u : State) (again : Bool → State → Decision) → (b ≡ true → is_last w ≡ true)
      → ((b : Bool) (t : State) → (b ≡ true → is_last w ≡ true) → P (again b t)) → P (try_value w t v c b u again)
  value_by true v c b u again l f = written_by (is_last w) refl (write w v c u) again f
  value_by false v c b u again l f = f b u l

  try_by : (m v : ℕ) (b : Bool) (u : State) → (b ≡ true → is_last w ≡ true) → P (try_after w m v b u)
  unfolding try_after
  try_by zero v b u l = backs b u l
  try_by (suc m) v b u l =
      value_by (below (cost_at w (next w v) u ⊕ h w (next w v)) u.bound) (next w v) (as_number (cost_at w (next w v) u)) b u (λ (b : Bool) (t : State). try_after w m (next w v) b t) l (λ b t k. try_by m (next w v) b t k)

  no_improvement : false ≡ true → is_last w ≡ true
  no_improvement e = let c : ◌≡◌ {A = ℕ} 0 1 = cc in absurd (omega arith)

  pub assign_by : (u : State) → P (assign w u)
  unfolding assign
  assign_by u = try_by (left w (own_value w u)) (own_value w u) false (begun w u) no_improvement

  pub resume_by : (u : State) → P (resume w u)
  unfolding resume
  resume_by u = go (leb u.bound (bare_cost w u))
    where
      go : (t : Bool) → P (reached_bound w t u)
      go true = backs false (take_off w u) no_improvement
      go false = assign_by u

  -- ---- responding: also refused, quiet, or a reply

  module _ (refuses : (r : ℕ) → 1 ≤ r → P (refused r)) (stays : (u : State) → P (quiet u)) (replies : (u : State) (m : Message) → P (accepted u (reply w m) [])) where
    module _ (u : State) (m : Message) where
      own_by : (t : Bool) → P (on_own w t u m)
      own_by true = resume_by (take_bound m u)
      own_by false = refuses 11 (omega arith)

      down_by : (o : Ordering) → P (on_down w o u m)
      down_by Less = stays u
      down_by Equal = resume_by (received m u)
      down_by Greater = resume_by (received m (with_threshold m.stamp u))

      back_by : (o : Ordering) → P (on_back w o u m)
      back_by Less = stays u
      back_by Equal = own_by (is_cpa_out w u m)
      back_by Greater = own_by (is_cpa_out w u m)

      either_by : (t : Bool) → P (on_either w t u m)
      either_by true = down_by (compare_on (suc w.place) m.stamp u.threshold)
      either_by false = back_by (compare_on (suc w.place) m.stamp u.threshold)

      fresh_by : (o : Ordering) → P (on_fresh w o u m)
      fresh_by Less = stays u
      fresh_by Equal = replies u m
      fresh_by Greater = replies (with_threshold m.stamp u) m

    reached_by : (t : Bool) (u : State) → P (reached_by_estimates w t u)
    reached_by true u = assign_by u
    reached_by false u = stays u

    own-estimate_by : (t : Bool) (u : State) → P (on_own_estimate w t u)
    own-estimate_by true u = reached_by (leb u.bound (u.cost + sum_later w u.estimates)) u
    own-estimate_by false u = refuses 11 (omega arith)

    timely_by : (o : Ordering) (u : State) (m : Message) → P (on_timely w o u m)
    timely_by Less u m = stays u
    timely_by Equal u m = own-estimate_by (is_out w u && same_on (suc w.place) m.stamp u.stamp) (stored m u)
    timely_by Greater u m = refuses 11 (omega arith)

    kind_by : (k : Kind) (u : State) (m : Message) → P (by_kind w k u m)
    unfolding on_cpa on_request on_estimate on_solution on_stop
    kind_by Cpa u m = either_by u m (ltb m.sender (suc w.place))
    kind_by Request u m = fresh_by u m (compare_on w.place m.stamp u.threshold)
    kind_by Estimate u m = timely_by (compare_on (suc w.place) m.stamp u.threshold) u m
    kind_by Solution u m = stays (take_bound m u)
    kind_by Stop u m = stays (with_stopped true (take_bound m u))

    stopped_by : (t : Bool) (k : Kind) (u : State) (m : Message) → P (unless_stopped t w k u m)
    stopped_by true k u m = refuses 12 (omega arith)
    stopped_by false k u m = kind_by k u m

    pub respond_by : (k : Kind) (u : State) (m : Message) → P (respond w k u m)
    unfolding respond
    respond_by k u m = stopped_by u.stopped k u m
