-- What holds of a view of n units of the sizes: the number of units, the own place, its domain, and the limit of its costs; and the sizes in range.
-- The costs lent with a step that was not refused give such a view, and so does an accepted table, by crate costs. Assumes nothing.
use Rattle.std.specs.Prelude.{ℕ, ◌≤◌, ◌<◌, pred, ◌≡◌, refl, Bool, true, false, cond, List, ltb, leb, length, get_or}
use Rattle.std.proofs.Common.{arith, get_or-take, leb-true}
use Rattle.base.specs.Limits.{pair_limit, unary_limit}
use Rattle.base.specs.Shape.{shape_good}
use Rattle.base.specs.Shape.Laws.{shape_n, shape_size, and_left, and_right}
use Rattle.costs.specs.Cost.Laws.{AtMost}
use Rattle.costs.specs.declared.ValueOrder.{ValueOrder}
use Rattle.costs.specs.Instance.{Instance, View, view_by, lookahead, lent_view}
use Rattle.costs.specs.Laws.{Sound}
use Rattle.costs.specs.Lent.{lent_refusal}
use Rattle.costs.specs.Lent.Bounds.{lent_unary_most, lent_pair_most, lent_looks}
use Rattle.message.specs.Message.{is_unit}

pub record GoodView (n : ℕ) (sizes : List ℕ) (w : View) : Type 0 where
  pub shape : shape_good n sizes ≡ true
  pub long : n ≤ length sizes
  pub units : w.n ≡ n
  pub place : w.place < n
  pub dom : w.dom w.place ≡ get_or sizes w.place 0
  pub unary_small : (v : ℕ) → w.unary v ≤ unary_limit
  pub small : (j u v : ℕ) → AtMost pair_limit (w.pair j u v)
  pub looks : (v : ℕ) → w.ahead v ≡ lookahead w.place w.n w.dom w.pair v

module _ (n : ℕ) (sizes : List ℕ) (w : View) (g : GoodView n sizes w) where
  pub units_most : n ≤ 16
  units_most = (shape_n n sizes g.shape).1

  pub place_16 : w.place < 16
  place_16 = omega (arith, g.place, units_most)

  pub size_most : (j : ℕ) → j < n → get_or sizes j 0 ≤ 16
  size_most j l = (shape_size n sizes g.shape g.long j l).1

-- the number of a unit
pub unit_range : (n i : ℕ) → is_unit n i ≡ true → (1 ≤ i) × (i ≤ n)
unit_range n i e = (leb-true 1 i (and_left _ _ e), leb-true i n (and_right (leb 1 i) _ e))

pub lent_good_lem : (order : ValueOrder) (own n : ℕ) (sizes costs : List ℕ) → shape_good n sizes ≡ true → n ≤ length sizes → is_unit n own ≡ true → lent_refusal own n sizes costs ≡ 0
    → GoodView n sizes (lent_view order own n sizes costs)
unfolding lent_view
lent_good_lem order own n sizes costs s l i r =
    record {
      shape = s;
      long = l;
      units = refl;
      place = below;
      dom = get_or-take n sizes (pred own) 0 below;
      unary_small = lent_unary_most own n sizes costs r order;
      small = lent_pair_most own n sizes costs r order;
      looks = lent_looks own n sizes costs r order;
    }
  where
    below : pred own < n
    below = omega (arith, (unit_range n own i).0, (unit_range n own i).1)

-- what a unit sees of a sound instance of these sizes
pub view_good : (order : ValueOrder) (I : Instance) (sizes : List ℕ) (k : ℕ) → Sound I → shape_good I.n sizes ≡ true → I.n ≤ length sizes → k < I.n → I.dom k ≡ get_or sizes k 0 → GoodView I.n sizes (view_by order I k)
view_good order I sizes k s g l b d = record { shape = g; long = l; units = refl; place = b; dom = d; unary_small = s.unary_small k; small = λ j u v. go (ltb j k) j u v; looks = λ v. refl }
  where
    go : (t : Bool) (j u v : ℕ) → AtMost pair_limit (cond t (I.cost j u k v) (I.cost k v j u))
    go true j u v = s.small j u k v
    go false j u v = s.small k v j u
