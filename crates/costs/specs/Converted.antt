-- A table converted into the other form is the same instance (table's Form, 02, job 7: the mover). n, sizes and pair costs are the same bytes; and
-- where nothing is lost, the unary costs are zero in both.
-- Assumes nothing.
use Rattle.std.specs.Prelude.{◌≡◌, ℕ, ◌+◌, ◌-◌, ◌*◌, ◌<◌, Bool, true, false, cond, List, length, take, drop, slice_index, refl}
use Rattle.std.proofs.Common.{sym, ap, ◌∙◌, subst, arith, length-drop, get_or-take, length-take-le}
use Rattle.std.proofs.Math.Path.{fun_ext}
use Rattle.std.proofs.lemmas.List.{get_or-replicate}
use Rattle.base.specs.Shape.{is_value}
use Rattle.base.specs.Shape.Laws.{value_range}
use Rattle.base.specs.Sums.{sum_to}
use Rattle.table.specs.declared.Form.{Form}
use Rattle.table.specs.declared.Form.TheVariants.{One, Two}
use Rattle.table.specs.Stream.{in_form_two, units_of, sizes_of, unaries_in, unaries_at, pairs_at, Accepted}
use Rattle.table.specs.StreamLaws.{unaries_two, accepted_length}
use Rattle.table.specs.BlockLaws.{zeros_are}
use Rattle.table.specs.Form.{form_of, in_form, no_unary, lossless}
use Rattle.table.specs.Form.Laws.{SameShape, same_shape, accepted_in_lem, in_one, back_loses_nothing}
use Rattle.costs.specs.Instance.{Instance, cost_number, table_unary, table_cost, unary_of, dom_of, instance_of}
use Rattle.costs.specs.Laws.Stream.{unaries_from, accepted-there, unary_costs, unary_value}

-- the unary costs of a stream of form one
unary_one : (s : List ℕ) → in_form_two s ≡ false → (k v : ℕ) → unary_of s k v ≡ 0
unary_one s e k v = rw e

-- and of one with no unary cost above zero
module _ (s : List ℕ) (ok : Accepted s) (none : no_unary s ≡ true) where
  byte_zero : (i : ℕ) → i < 2 * unaries_in s → slice_index (unaries_from s) i ≡ 0
  byte_zero i h =
      let m : ℕ = 2 * unaries_in s in
      let l : length (take m (unaries_from s)) ≡ m = length-take-le m (unaries_from s) (rw (length-drop (unaries_at s) s) (omega (arith, accepted_length s ok))) in
      sym (get_or-take m (unaries_from s) i 0 h) ∙ ap (λ (t : List ℕ). slice_index t i) (sym (zeros_are (take m (unaries_from s)) m none l)) ∙ get_or-replicate m i 0 0 h

  unary_zero : (k v : ℕ) → unary_of s k v ≡ 0
  unary_zero k v = go (in_form_two s) refl
    where
      in_two : in_form_two s ≡ true → (t : Bool) → is_value (dom_of s k) v ≡ t → cond t (cost_number (unaries_from s) (sum_to (dom_of s) k + (v - 1))) 0 ≡ 0
      in_two two true e =
          let r = value_range (dom_of s k) v e in
          let x : ℕ = sum_to (dom_of s) k + (v - 1) in
          let h : x < unaries_in s = omega (arith, r.0, r.1, unary_costs s (accepted-there s ok) k (unary_value s ok k v e), unaries_two s two) in
          omega (arith, byte_zero (2 * x) (omega arith), byte_zero (2 * x + 1) (omega arith))
      in_two two false e = refl

      go : (t : Bool) → in_form_two s ≡ t → cond t (table_unary (dom_of s) (unaries_from s) k v) 0 ≡ 0
      go true e = in_two e (is_value (dom_of s k) v) refl
      go false e = refl

-- ---- the instance, by its parts

abbrev built : ℕ → List ℕ → List ℕ → (ℕ → ℕ → ℕ) → Instance
built n sizes pairs unary = record { n = n; dom = λ k. slice_index sizes k; unary = unary; cost = table_cost n (λ k. slice_index sizes k) pairs }

built_of : (s : List ℕ) → instance_of s ≡ built (units_of s) (sizes_of s) (drop (pairs_at s) s) (unary_of s)
unfolding instance_of
built_of s = refl

module _ (s : List ℕ) (ok : Accepted s) where
  unary_same : (form : Form) → lossless form s ≡ true → unary_of (in_form form s) ≡ unary_of s
  unary_same form none = fun_ext (λ k. fun_ext (λ v. go form none (in_form_two s) refl k v))
    where
      go : (form : Form) → lossless form s ≡ true → (t : Bool) → in_form_two s ≡ t → (k v : ℕ) → unary_of (in_form form s) k v ≡ unary_of s k v
      go One z true e k v = unary_one (in_form One s) (in_one s ok) k v ∙ sym (unary_zero s ok z k v)
      go One z false e k v = rw (e, e)
      go Two z true e k v = rw (e, e)
      go Two z false e k v =
          let one : form_of s ≡ One = rw e in
          let n : no_unary (in_form Two s) ≡ true = subst (λ (form : Form). lossless form (in_form Two s) ≡ true) one (back_loses_nothing s ok Two) in
          unary_zero (in_form Two s) (accepted_in_lem s ok Two) n k v ∙ sym (unary_one s e k v)

  -- 02: the mover moves no cost
  pub converted_instance : (form : Form) → lossless form s ≡ true → instance_of (in_form form s) ≡ instance_of s
  converted_instance form none =
      let t : List ℕ = in_form form s in
      let same : SameShape s t = same_shape s ok form in
      built_of t
      ∙ ap (λ (n : ℕ). built n (sizes_of t) (drop (pairs_at t) t) (unary_of t)) same.units
      ∙ ap (λ (l : List ℕ). built (units_of s) l (drop (pairs_at t) t) (unary_of t)) same.sizes
      ∙ ap (λ (l : List ℕ). built (units_of s) (sizes_of s) l (unary_of t)) same.pairs
      ∙ ap (built (units_of s) (sizes_of s) (drop (pairs_at s) s)) (unary_same form none)
      ∙ sym (built_of s)
