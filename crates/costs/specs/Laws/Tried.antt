-- The problem in the order in which the units try their values. The protocol counts a value by its place in that order, so its prefixes are lists of places:
-- `values_at` reads them as values in their domains, and `places_at` is the way back (Order/Laws: each order is a permutation).
-- In order: the two readings, one to one; what is closed over values is closed over places, and back; the laws; full prefixes.
-- Assumes nothing.
use Rattle.std.specs.Prelude.{◌≡◌, ℕ, zero, suc, ◌-◌, ◌≤◌, List, [], ◌∷◌, length, refl}
use Rattle.std.proofs.Common.{sym, ap, ◌∙◌, subst}
use Rattle.costs.specs.declared.ValueOrder.{ValueOrder}
use Rattle.costs.specs.Cost.{as_number}
use Rattle.costs.specs.Instance.{Instance, View, view_by}
use Rattle.costs.specs.Order.{place_tried, value_at}
use Rattle.costs.specs.Order.Laws.{place-least, place-most, value_least, value_most, place_of_value, value_of_place}
use Rattle.costs.specs.Problem.{Problem, InDomains, Full, ClosedBy, Closed}
use Rattle.costs.specs.Laws.{cost_of, lookahead_of, estimate_of, problem_of}

-- ---- places read as values, and values as places

module _ (o : ValueOrder) (I : Instance) where
  abbrev pub values_at : List ℕ → List ℕ
  values_at [] = []
  values_at (p ∷ b) = value_at (view_by o I (length b)) p ∷ values_at b

  abbrev pub places_at : List ℕ → List ℕ
  places_at [] = []
  places_at (v ∷ b) = place_tried (view_by o I (length b)) v ∷ places_at b

  -- the instance's problem, its values counted by their places
  abbrev pub problem_by : Problem
  problem_by =
      record {
        n = I.n;
        size = I.dom;
        cost = λ b. as_number (cost_of I (values_at b));
        lookahead = λ b. as_number (lookahead_of I (values_at b));
        estimate = λ j b. as_number (estimate_of I j (values_at b));
      }

module _ (o : ValueOrder) (I : Instance) where
  pub length_values : (b : List ℕ) → length (values_at o I b) ≡ length b
  length_values [] = refl
  length_values (p ∷ b) = ap suc (length_values b)

  pub values_in_dom : (b : List ℕ) → InDomains (problem_by o I) b → InDomains (problem_of I) (values_at o I b)
  values_in_dom [] d = tt
  values_in_dom (p ∷ b) d =
      let w : View = view_by o I (length b) in
      (value_least w p d.0 d.1, subst (λ k. value_at (view_by o I (length b)) p ≤ I.dom k) (sym (length_values b)) (value_most w p), values_in_dom b d.2)

  pub places_of_values : (b : List ℕ) → InDomains (problem_by o I) b → places_at o I (values_at o I b) ≡ b
  places_of_values [] d = refl
  places_of_values (p ∷ b) d =
      let e : length (values_at o I b) ≡ length b = length_values b in
      let a : place_tried (view_by o I (length b)) (value_at (view_by o I (length b)) p) ≡ p = place_of_value (view_by o I (length b)) p d.1 in
      let c : places_at o I (values_at o I b) ≡ b = places_of_values b d.2 in
      rw e cc

  -- so prefixes that read alike are one
  pub values_differ : (b c : List ℕ) → InDomains (problem_by o I) b → InDomains (problem_by o I) c → values_at o I b ≡ values_at o I c → b ≡ c
  values_differ b c d e q = sym (places_of_values b d) ∙ ap (places_at o I) q ∙ places_of_values c e

  -- ---- closed over values, and over places

  closed-places : (r : ℕ) (b : List ℕ) (B : ℕ) → ClosedBy (problem_of I) r (values_at o I b) B → ClosedBy (problem_by o I) r b B
  closed-places zero b B c = c
  closed-places (suc r) b B c = λ p lo hi.
      let w : View = view_by o I (length b) in
      closed-places r (p ∷ b) B (c (value_at w p) (value_least w p lo hi) (subst (λ k. value_at (view_by o I (length b)) p ≤ I.dom k) (sym (length_values b)) (value_most w p)))

  closed-values : (r : ℕ) (b : List ℕ) (B : ℕ) → ClosedBy (problem_by o I) r b B → ClosedBy (problem_of I) r (values_at o I b) B
  closed-values zero b B c = c
  closed-values (suc r) b B c = λ v lo hi.
      let w : View = view_by o I (length b) in
      let le : v ≤ I.dom (length b) = subst (λ k. v ≤ I.dom k) (length_values b) hi in
      subst (λ x. ClosedBy (problem_of I) r (x ∷ values_at o I b) B) (value_of_place w v le) (closed-values r (place_tried w v ∷ b) B (c (place_tried w v) (place-least w v lo) (place-most w v le)))

  pub to_places : (b : List ℕ) (B : ℕ) → Closed (problem_of I) (values_at o I b) B → Closed (problem_by o I) b B
  to_places b B c = closed-places (I.n - length b) b B (subst (λ k. ClosedBy (problem_of I) (I.n - k) (values_at o I b) B) (length_values b) c)

  pub closed_empty : (B : ℕ) → Closed (problem_by o I) [] B → Closed (problem_of I) [] B
  closed_empty B c = closed-values (I.n - 0) [] B c

  -- ---- a full prefix of places is one of values

  pub full_values : (b : List ℕ) → Full (problem_by o I) b → Full (problem_of I) (values_at o I b)
  full_values b f = (length_values b ∙ f.0, values_in_dom b f.1, f.2)
