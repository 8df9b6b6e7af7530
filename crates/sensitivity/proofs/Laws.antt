-- The least totals of two tables of one shape are as far apart as the sums of lowerings and raises allow, and where one cost alone changes, the new
-- least total lies between the ends that the call gives. Assumes nothing.
use Rattle.std.specs.Prelude.{ℕ, ◌+◌, ◌-◌, ◌≤◌, ◌≡◌, refl, Bool, true, false, cond, List, eqb, Some}
use Rattle.std.proofs.Common.{subst, inl, inr, arith}
use borrow.Author.Tests.{le-leb, eqb-true}
use Rattle.base.specs.Limits.{NONE, pair_limit, total_limit}
use Rattle.costs.specs.Cost.{Cost, ◌⊕◌}
use Rattle.costs.specs.Cost.Laws.{◌⊑◌, most_is}
use Rattle.costs.specs.Instance.{Instance}
use Rattle.costs.specs.Bounds.{Assignment, total, Reported}
use Rattle.costs.specs.Laws.{Sound}
use Rattle.costs.proofs.Laws.Prefix.{total_limit_lem}
use Rattle.sensitivity.specs.Ends.{ends_of, WithinEnds, Between}
use Rattle.sensitivity.specs.Changes.{Which, SameShape, lowerings, raises, OneCost}
use Rattle.sensitivity.specs.Laws.{cost_limit, lowered-total, more_within, one_lowering, one_raise, one_shape, raised-total, reach, same_assignments, same_back, total-given}

module _ (I J : Instance) (same : SameShape I J) (t t' : ℕ) (l m : List ℕ) (a : Reported I t l) (b : Reported J t' m) where
  -- of numbers, so that what is none may count as one
  sums_apart : (t - lowerings I J ≤ t') × (t' ≤ t + raises I J)
  sums_apart = go a b
    where
      go : Reported I t l → Reported J t' m → (t - lowerings I J ≤ t') × (t' ≤ t + raises I J)
      go (inl p) (inl q) = (omega (arith, p.0, q.0), omega (arith, p.0, q.0))
      go (inl p) (inr q) = absurd (p.2 m (same_assignments J I (same_back I J same) m q.0))
      go (inr p) (inl q) = absurd (q.2 l (same_assignments I J same l p.0))
      go (inr p) (inr q) =
          let back : Assignment I m = same_assignments J I (same_back I J same) m q.0 in
          let up : total J l ⊑ Some (t + raises I J) = subst (λ (c : Cost). total J l ⊑ c ⊕ Some (raises I J)) p.1 (raised-total I J same l p.0.0) in
          let down : total I m ⊑ Some (t' + lowerings I J) = subst (λ (c : Cost). total I m ⊑ c ⊕ Some (lowerings I J)) q.1 (lowered-total I J same m back.0) in
          let lower : t ≤ t' + lowerings I J = reach t (t' + lowerings I J) (total I m) (p.2 m back) down in
          (omega arith, reach t' (t + raises I J) (total J l) (q.2 l (same_assignments I J same l p.0)) up)

  none_kept : Sound I → t ≡ NONE → t' ≡ NONE
  none_kept sound e = go a b
    where
      go : Reported I t l → Reported J t' m → t' ≡ NONE
      go (inl p) (inl q) = q.0
      go (inl p) (inr q) = absurd (p.2 m (same_assignments J I (same_back I J same) m q.0))
      go (inr p) q = absurd (omega (arith, e, most_is total_limit t (total I l) p.1 (total_limit_lem I sound l)))

  -- "the ends add up: lowerings for the lower end, raises for the upper"
  pub ends_add_up : Sound I → WithinEnds t (lowerings I J) (raises I J) t'
  ends_add_up sound = go (eqb t NONE) refl
    where
      go : (r : Bool) → eqb t NONE ≡ r → (cond r NONE (t - lowerings I J) ≤ t') × (t' ≤ cond r NONE (t + raises I J))
      go true e = let q : t' ≡ NONE = none_kept sound (eqb-true t NONE e) in (omega arith, omega arith)
      go false e = sums_apart

-- "a table with no lotting keeps none", and only such a one has none
pub keeps_none : (I J : Instance) → SameShape I J → Sound I → Sound J → (t t' : ℕ) (l m : List ℕ) → Reported I t l → Reported J t' m → (t ≡ NONE → t' ≡ NONE) × (t' ≡ NONE → t ≡ NONE)
keeps_none I J same sound sound' t t' l m a b = (none_kept I J same t t' l m a b sound, none_kept J I (same_back I J same) t' t m l b a sound')

module _ (I J : Instance) (s : Sound I) (s' : Sound J) (w : Which) (old new : ℕ) (one : OneCost I J w old new) (t t' : ℕ) (l m : List ℕ) (a : Reported I t l) (b : Reported J t' m) where
  -- "Raising one cost by an amount raises the least total by 0 to that amount; lowering lowers it likewise."
  pub one_retest : Between (ends_of t old new) t'
  unfolding ends_of
  one_retest =
      let w' : WithinEnds t (old - new) (new - old) t' =
      more_within t t' (lowerings I J) (old - new) (raises I J) (new - old) (one_lowering I J w old new one) (one_raise I J w old new one) (ends_add_up I J (one_shape I J w old new one) t t' l m a b s) in
      rw (le-leb old pair_limit (cost_limit I s w old one.was), le-leb new pair_limit (cost_limit J s' w new one.becomes), total-given I s t l a) (record { taken = refl; lower = w'.0; upper = w'.1 })
