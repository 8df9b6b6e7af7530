-- A view in which h of the first own values is known beforehand: what h is by the numbers, and that with the right ones it is the view itself.
-- By the tests of the definition; the two views differ in h alone, and there the numbers tell the costs back. Assumes nothing.
use Rattle.std.specs.Prelude.{◌≡◌, ℕ, suc, ◌-◌, ◌<◌, Bool, true, false, cond, List, [], length, ◌==◌, slice_index, slice_set, Some, None}
use Rattle.std.proofs.Math.Path.{refl, ap, fun_ext}
use Rattle.std.proofs.Common.{◌∙◌, arith, get_or-set_same, get_or-set_other, le-leb, eqb-true}
use Rattle.std.proofs.lemmas.Bool.{eqb-false}
use Rattle.base.specs.Shape.{is_value}
use Rattle.base.specs.Shape.Laws.{value_range}
use Rattle.costs.specs.Cost.{Cost, as_number}
use Rattle.costs.specs.Cost.Laws.{AtMost}
use Rattle.costs.specs.Instance.{View, ahead_limit, ahead_cost, knowing}
use Rattle.costs.specs.Bounds.{cost_with, h}

-- ---- h of an own value

module _ (w : View) (ahead : List ℕ) (v : ℕ) where
  pub h_unknown : is_value (length ahead) v ≡ false → h w v ≡ h (knowing ahead w) v
  unfolding h knowing
  h_unknown e = rw e

  pub h_known : is_value (length ahead) v ≡ true → ahead_cost (slice_index ahead (v - 1)) ≡ h (knowing ahead w) v
  unfolding h knowing
  h_known e = rw e

-- costs are as they were
pub cost-knowing : (w : View) (ahead values : List ℕ) (k v : ℕ) → cost_with (knowing ahead w) values k v ≡ cost_with w values k v
unfolding cost_with knowing
cost-knowing w ahead values k v = refl

-- ---- the right numbers

-- those of the first i values; no h is more than so many costs of 16 bits
abbrev pub Ahead : View → List ℕ → ℕ → Type 0
Ahead w ahead i = (k : ℕ) → k < i → (slice_index ahead k ≡ as_number (h w (suc k))) × AtMost ahead_limit (h w (suc k))

abbrev pub Knows : View → List ℕ → Type 0
Knows w ahead = Ahead w ahead (length ahead)

pub ahead_none : (w : View) (ahead : List ℕ) → Ahead w ahead 0
ahead_none w ahead k l = absurd (omega arith)

-- one number more
pub ahead_more : (w : View) (ahead : List ℕ) (i x : ℕ) → i < length ahead → Ahead w ahead i → x ≡ as_number (h w (suc i)) → AtMost ahead_limit (h w (suc i)) → Ahead w (slice_set ahead i x) (suc i)
ahead_more w ahead i x long old number most k l = go (k == i) refl
  where
    go : (t : Bool) → (k == i) ≡ t → (slice_index (slice_set ahead i x) k ≡ as_number (h w (suc k))) × AtMost ahead_limit (h w (suc k))
    go true e = rw (eqb-true k i e) (get_or-set_same ahead i x 0 long ∙ number, most)
    go false e =
        let ne = eqb-false k i e in
        let o = old k (omega (arith, l, ne)) in
        (get_or-set_other ahead i k x 0 ne ∙ o.0, o.1)

-- ---- they tell the costs back

told_back : (c : Cost) → AtMost ahead_limit c → ahead_cost (as_number c) ≡ c
told_back (Some n) most = rw (le-leb n ahead_limit most)
told_back None most = refl

module _ (w : View) (ahead : List ℕ) (knows : Knows w ahead) where
  same_ahead : (v : ℕ) → cond (is_value (length ahead) v) (ahead_cost (slice_index ahead (v - 1))) (w.ahead v) ≡ w.ahead v
  unfolding h
  same_ahead v = go (is_value (length ahead) v) refl
    where
      go : (t : Bool) → is_value (length ahead) v ≡ t → cond t (ahead_cost (slice_index ahead (v - 1))) (w.ahead v) ≡ w.ahead v
      go true e =
          let r = value_range (length ahead) v e in
          let s : suc (v - 1) ≡ v = omega (arith, r.0) in
          let k = knows (v - 1) (omega (arith, r.0, r.1)) in
          ap ahead_cost (k.0 ∙ ap (λ (x : ℕ). as_number (w.ahead x)) s) ∙ told_back (w.ahead v) (rw s at k.1)
      go false e = refl

  pub knowing_sees : knowing ahead w ≡ w
  unfolding knowing
  knowing_sees = ap (λ (f : ℕ → Cost). record { order = w.order; place = w.place; n = w.n; dom = w.dom; unary = w.unary; pair = w.pair; ahead = f }) (fun_ext same_ahead)

-- where nothing is known
pub knows_nothing : (w : View) → Knows w []
knows_nothing w k l = absurd (omega arith)
