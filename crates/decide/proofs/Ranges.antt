-- The tests of a state in range: 16 places at most m, and what a unit's view says of its state.
-- Assumes nothing.
use Rattle.std.specs.Prelude.{ℕ, zero, suc, ◌≤◌, ◌≡◌, refl, Bool, true, false, ◌&&◌, List, [], ◌∷◌, leb, get_or, length}
use Rattle.std.proofs.Common.{sym, ap, ◌∙◌}
use Rattle.std.specs.List.{list_all}
use Rattle.costs.specs.declared.Seat.{Seat}
use Rattle.costs.specs.Instance.{view_knowing}
use Rattle.costs.specs.Order.{place_tried}
use Rattle.base.specs.Every.{every}
use Rattle.rules.specs.declared.Unit.{Unit}
use Rattle.rules.specs.State.{all_at_most, paid_in_range, in_range, own_value, own_cost}
use Rattle.decide.proofs.Lent.{n-lent, own-lent}

-- ---- each of a list, and each by its place

every_first : (p : ℕ → Bool) (m : ℕ) → every p (suc m) ≡ (p 0 && every (λ k. p (suc k)) m)
every_first p zero = go (p 0)
  where
    go : (t : Bool) → t ≡ (t && true)
    go true = refl
    go false = refl
every_first p (suc m) = rw (every_first p m) (go (p 0) (every (λ k. p (suc k)) m) (p (suc m)))
  where
    go : (s t b : Bool) → ((s && t) && b) ≡ (s && (t && b))
    go true t b = refl
    go false t b = refl

each_place : (p : ℕ → Bool) (l : List ℕ) → list_all p l ≡ every (λ (k : ℕ). p (get_or l k 0)) (length l)
each_place p [] = refl
each_place p (x ∷ l) = rw (each_place p l) (sym (every_first (λ (k : ℕ). p (get_or (x ∷ l) k 0)) (length l)))

pub sixteen_at_most : (m : ℕ) (l : List ℕ) → length l ≡ 16 → list_all (λ x. leb x m) l ≡ all_at_most m l
unfolding all_at_most
sixteen_at_most m l e = each_place (λ x. leb x m) l ∙ ap (λ (n : ℕ). every (λ (k : ℕ). leb (get_or l k 0) m) n) e

-- ---- by a view

-- what a unit pays, and its own value's place, by its view
pub range_lent : (seat : Seat) (costs ahead : List ℕ) (u : Unit) (paid place : ℕ) → 1 ≤ seat.own → paid ≡ own_cost (view_knowing seat costs ahead) u
    → place ≡ place_tried (view_knowing seat costs ahead) (own_value (view_knowing seat costs ahead) u)
    → paid_in_range seat.n seat.sizes seat.own paid place u ≡ in_range seat.sizes (view_knowing seat costs ahead) u
unfolding in_range
range_lent seat costs ahead u paid place first pays tried = rw (pays, tried, own-lent seat costs ahead first, n-lent seat costs ahead)
