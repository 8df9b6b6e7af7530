-- The pieces that the code writes a stream of: n and the sizes, and the costs of two lines, from what they cost in the same lot. How long they are,
-- and that they are the pieces of the table's stream. Assumes nothing.
use Rattle.std.specs.Prelude.{ℕ, suc, ◌+◌, ◌*◌, ◌≤◌, ◌<◌, ◌≡◌, Bool, true, false, cond, List, [], ◌∷◌, eqb, length, get_or, set, take}
use Rattle.std.specs.Prelude.{refl}
use Rattle.std.proofs.Common.{◌∙◌, mul_comm, arith, length-set, length-take-le, eq-eqb, ne_eqb, eqb-true}
use Rattle.std.proofs.lemmas.List.Edits.{sets-eq}
use Rattle.std.proofs.lemmas.Bool.{eqb-false}
use Rattle.base.specs.{Bytes.le16, Join.join_to, Join.Laws.length_join, Put.put_at, Put.put_within, Sums.Laws.sum_to_same}
use Rattle.base.specs.Put.Laws.{put-fits, put_after}
use Rattle.costs.specs.{Streamed.pair_costs, Lent.Steps.dom_at}
use Rattle.readings.specs.Readings.{in_lots, gap, gap_cost, reading_at, lines_of}

-- of lot u + 1 of the earlier line with each of e lots
abbrev pub row_of : ℕ → ℕ → ℕ → List ℕ
row_of cost e u = join_to (λ v. le16 (in_lots cost (suc u) (suc v))) e

-- of d lots
abbrev pub pair_of : ℕ → ℕ → ℕ → List ℕ
pair_of cost d e = join_to (row_of cost e) d

-- lots counted from 0 are the same where those counted from 1 are
pub lots_from_one : (cost u v : ℕ) → in_lots cost u v ≡ in_lots cost (suc u) (suc v)
lots_from_one cost u v = go (eqb u v) refl
  where
    go : (t : Bool) → eqb u v ≡ t → cond t cost 0 ≡ in_lots cost (suc u) (suc v)
    go true e = let q : suc u ≡ suc v = omega (arith, eqb-true u v e) in rw (eq-eqb (suc u) (suc v) q)
    go false e = let q : suc u ≡ suc v → ⊥ = λ f. eqb-false u v e (omega arith) in rw (ne_eqb (suc u) (suc v) q)

pub row_length : (cost e u : ℕ) → length (row_of cost e u) ≡ 2 * e
row_length cost e u = length_join (λ v. le16 (in_lots cost (suc u) (suc v))) (λ v. 2) (λ v. refl) e ∙ sum_to_same 2 e ∙ mul_comm e 2

pub pair_length : (cost d e : ℕ) → length (pair_of cost d e) ≡ 2 * e * d
pair_length cost d e = length_join (row_of cost e) (λ u. 2 * e) (row_length cost e) d ∙ sum_to_same (2 * e) d ∙ mul_comm d (2 * e)

-- the costs of lines i and j
abbrev pub lines_pair : List ℕ → List ℕ → ℕ → ℕ → List ℕ
lines_pair sizes readings i j = pair_of (gap_cost (gap (reading_at readings i) (reading_at readings j))) (get_or sizes i 0) (get_or sizes j 0)

-- are those of the table
pub pair_is : (n : ℕ) (sizes readings : List ℕ) (i j : ℕ) → i < n → j < n → lines_pair sizes readings i j ≡ pair_costs (lines_of n sizes readings) i j
unfolding lines_of
pair_is n sizes readings i j a b = rw (← dom_at n sizes i a, ← dom_at n sizes j b)

-- ---- n and the sizes

pub shape_put : (l sizes : List ℕ) (n : ℕ) → 1 + n ≤ length l → n ≤ length sizes → put_within (set l 0 n) 1 (take n sizes) ≡ put_at l 0 (n ∷ take n sizes)
shape_put l sizes n room long =
    let count : length (take n sizes) ≡ n = length-take-le n sizes long in
    let there : length (set l 0 n) ≡ length l = length-set l 0 n in
    put-fits (set l 0 n) (take n sizes) 1 (omega arith) ∙ rw (sets-eq (n ∷ []) l 0 (omega arith)) (put_after l (n ∷ []) (take n sizes) 0 (omega arith))
