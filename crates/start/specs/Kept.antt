-- What of a stream touches a unit, as it comes in: the zeros of form one with its size, then the runs that are its own. By the same steps as Refused:
-- the sizes, then the rows of costs. Assumes nothing.
use Rattle.std.specs.Prelude.{ℕ, zero, suc, ◌+◌, ◌*◌, ◌≤◌, ◌<◌, ◌≡◌, ◌&&◌, length, get_or, set, take, drop, replicate}
use Rattle.std.proofs.Math.Path.{refl, ap}
use Rattle.std.proofs.Common.{◌∙◌, arith, mul-add, mul-zero, length-drop, take-append-drop, length-take-le, drop-drop, eq-eqb, ne_eqb}
use Rattle.std.proofs.Math.Bool.{true, cond}
use mathlib.Core.List.{List, [], ◌∷◌, ◌++◌, append-nil}
use Rattle.std.proofs.Math.Dec.{eqb}
use Rattle.base.specs.Shape.{is_value, all_in_sixteen}
use Rattle.base.specs.Shape.Laws.{and_left, and_right}
use Rattle.table.specs.Stream.{sum_list, pairs_in, unary_good}
use Rattle.start.specs.declared.Reader.{Reader}
use Rattle.start.specs.Byte.{to_run, after, after_byte, kept, kept_of}
use Rattle.start.specs.Runs.{found, based, row_kept, rows_kept, row_in, next_row, rows_in, split_kept}
use Rattle.start.specs.Refused.{sizing, size_more, from_first}

-- what is kept with the sizes ds, of the units behind `unit`
abbrev pub sizes_kept : ℕ → ℕ → ℕ → List ℕ → List ℕ
sizes_kept own row unit [] = []
sizes_kept own row unit (d ∷ ds) = cond (eqb row 1 && eqb (unit + 1) own) (replicate (2 * d) 0) [] ++ sizes_kept own row (unit + 1) ds

module _ (n row own : ℕ) where
  size_kept : (d : ℕ) (sizes : List ℕ) (unit : ℕ) → is_value 16 d ≡ true → kept_of own (sizing n row sizes unit) d ≡ cond (eqb row 1 && eqb (unit + 1) own) (replicate (2 * d) 0) []
  size_kept d sizes unit e = rw e

  pub sizes-kept : (ds sizes : List ℕ) (unit : ℕ) → all_in_sixteen ds ≡ true → unit + length ds ≡ n → kept own (sizing n row sizes unit) ds ≡ sizes_kept own row unit ds
  unfolding kept all_in_sixteen
  sizes-kept [] sizes unit e h = refl
  sizes-kept (d ∷ []) sizes unit e h = ap (λ (x : List ℕ). x ++ []) (size_kept d sizes unit (and_left (is_value 16 d) true e))
  sizes-kept (d ∷ e ∷ ds) sizes unit all h =
      let g = and_left (is_value 16 d) (all_in_sixteen (e ∷ ds)) all in
      ap (λ (x : List ℕ). x ++ kept own (after_byte (sizing n row sizes unit) d) (e ∷ ds)) (size_kept d sizes unit g)
      ∙ ap (λ (r : Reader). cond (eqb row 1 && eqb (unit + 1) own) (replicate (2 * d) 0) [] ++ kept own r (e ∷ ds)) (size_more n row sizes unit d g (omega arith))
      ∙ ap (λ (x : List ℕ). cond (eqb row 1 && eqb (unit + 1) own) (replicate (2 * d) 0) [] ++ x) (sizes-kept (e ∷ ds) (set sizes unit d) (unit + 1) (and_right (is_value 16 d) (all_in_sixteen (e ∷ ds)) all) (omega arith))

-- what is kept of the costs, in form one and in form two
module _ (n : ℕ) (ds z : List ℕ) (good : all_in_sixteen ds ≡ true) (many : length ds ≡ n) (own : ℕ) where
  pub kept_one : (c : List ℕ) → length c ≡ 2 * pairs_in ds → kept own (to_run (based n (ds ++ z) 0) 1 2) c ≡ rows_kept own 1 ds c
  kept_one c h = (rows_in n (ds ++ z) own ds 1 0 c (omega arith) (from_first n ds z good many) h).1

  pub kept-two : (c : List ℕ) → length c ≡ 2 * sum_list ds + 2 * pairs_in ds
      → kept own (to_run (based n (ds ++ z) 0) 0 1) c ≡ row_kept own 0 1 1 ds (take (2 * sum_list ds) c) ++ rows_kept own 1 ds (drop (2 * sum_list ds) c)
  kept-two c h =
      let k : ℕ = 2 * sum_list ds in
      let e : 1 * sum_list ds ≡ sum_list ds = omega arith in
      let y : ℕ = found unary_good 0 (take k c) (sum_list ds) in
      let i = row_in n (ds ++ z) own 0 1 refl (omega arith) ds 1 0 (take k c) (from_first n ds z good many) (rw e (length-take-le k c (omega arith))) in
      let r : after (to_run (based n (ds ++ z) 0) 0 1) (take k c) ≡ to_run (based n (ds ++ z) y) 1 2 = rw e at i.0 ∙ next_row n (ds ++ z) y 0 in
      split_kept own (to_run (based n (ds ++ z) 0) 0 1) k c r
      ∙ rw (i.1, (rows_in n (ds ++ z) own ds 1 y (drop k c) (omega arith) (from_first n ds z good many) (rw length-drop (omega arith))).1) refl

-- ---- the runs of a unit

-- a row of other units keeps nothing behind the unit's own run
row_past : (own row d : ℕ) (es : List ℕ) (unit : ℕ) (l : List ℕ) → (row ≡ own → ⊥) → own < unit → row_kept own row d unit es l ≡ []
row_past own row d [] unit l other h = refl
row_past own row d (e ∷ es) unit l other h =
    rw (ne_eqb row own other, ne_eqb unit own (λ q. omega (arith, q))) (row_past own row d es (unit + 1) (drop (2 * (d * e)) l) other (omega arith))

-- of a row before it just that run
pub row_before : (own row d : ℕ) (es : List ℕ) (unit j : ℕ) (l : List ℕ) → (row ≡ own → ⊥) → unit + j ≡ own → j < length es
    → row_kept own row d unit es l ≡ take (2 * (d * get_or es j 0)) (drop (2 * (d * sum_list (take j es))) l)
unfolding sum_list
row_before own row d [] unit j l other u h = absurd (omega arith)
row_before own row d (e ∷ es) unit zero l other u h =
    let q : unit ≡ own = omega arith in
    rw (ne_eqb row own other, eq-eqb unit own q, row_past own row d es (unit + 1) (drop (2 * (d * e)) l) other (omega arith), append-nil, mul-zero) refl
row_before own row d (e ∷ es) unit (suc j) l other u h =
    let m : 2 * (d * e) + 2 * (d * sum_list (take j es)) ≡ 2 * (d * (e + sum_list (take j es))) = omega (arith, mul-add d e (sum_list (take j es))) in
    rw (ne_eqb row own other, ne_eqb unit own (λ q. omega (arith, q)))
    (row_before own row d es (unit + 1) j (drop (2 * (d * e)) l) other (omega arith) (omega arith) ∙ rw (drop-drop (2 * (d * sum_list (take j es))) (2 * (d * e)) l, m) refl)

-- and its own row is kept whole
pub row-own : (own d : ℕ) (es : List ℕ) (unit : ℕ) (l : List ℕ) → length l ≡ 2 * (d * sum_list es) → row_kept own own d unit es l ≡ l
unfolding sum_list
row-own own d [] unit [] h = refl
row-own own d [] unit (x ∷ l) h = absurd (omega (arith, mul-zero d))
row-own own d (e ∷ es) unit l h =
    let m : d * (e + sum_list es) ≡ d * e + d * sum_list es = mul-add d e (sum_list es) in
    rw (eq-eqb own own refl) (ap (λ (x : List ℕ). take (2 * (d * e)) l ++ x) (row-own own d es (unit + 1) (drop (2 * (d * e)) l) (rw length-drop (omega arith))) ∙ take-append-drop (2 * (d * e)) l)

-- rows behind it keep nothing
rows_past : (own row : ℕ) (ds l : List ℕ) → own < row → rows_kept own row ds l ≡ []
rows_past own row [] l h = refl
rows_past own row (d ∷ ds) l h =
    rw (row_past own row d ds (row + 1) (take (2 * (d * sum_list ds)) l) (λ q. omega (arith, q)) (omega arith)) (rows_past own (row + 1) ds (drop (2 * (d * sum_list ds)) l) (omega arith))

-- so from its own row on it keeps that row
pub rows_own : (own d : ℕ) (ds l : List ℕ) → 2 * (d * sum_list ds) ≤ length l → rows_kept own own (d ∷ ds) l ≡ take (2 * (d * sum_list ds)) l
rows_own own d ds l h =
    rw (row-own own d ds (own + 1) (take (2 * (d * sum_list ds)) l) (length-take-le (2 * (d * sum_list ds)) l h), rows_past own (own + 1) ds (drop (2 * (d * sum_list ds)) l) (omega arith)) (append-nil _)
