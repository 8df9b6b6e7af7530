-- How gathering goes on by one turn of a loop: a size, a sum, a part copied. Each by a law on lists at the next place.
-- In order: what the code hands on; sizes, and where costs begin; one more; parts copied; all of them.
-- Assumes nothing.
use Rattle.std.specs.Prelude.{◌≡◌, ℕ, zero, suc, pred, ◌+◌, ◌-◌, ◌*◌, ◌<◌, ◌≤◌, Bool, true, false, List, [], ◌∷◌, ◌++◌, length, take, drop, replicate, ◌==◌, ◌≢◌, slice_index, slice_set, refl}
use Rattle.std.proofs.Common.{sym, ap, ◌∙◌, append-nil, add-one, add-zero, zero-add, arith, length-append, length-take, length-drop, drop_of_length-le, eqb-true, take_all, length-take-le, get_or-take, get_or-drop, get_or-set_same, get_or-set_other}
use Rattle.std.proofs.Math.ListN.{get_or-eq_default}
use Rattle.std.proofs.lemmas.Bool.{eqb-false}
use Rattle.std.proofs.Math.Seq.{paste, paste-zero}
use Rattle.base.specs.Sums.{sum_from, sum_to}
use Rattle.base.specs.Join.{join_to}
use Rattle.base.specs.Put.{put_at}
use Rattle.base.specs.Put.Laws.{put_after}
use Rattle.table.specs.Stream.{in_form_two, opening, units_of, after_units, sizes_of, sum_list, unaries_at, pairs_at, needed}
use Rattle.table.specs.StreamLaws.{form_one, form_two_lem, unaries_found}
use Rattle.costs.specs.declared.Seat.{Seat}
use Rattle.costs.specs.Lent.Parts.{dom_from}
use Rattle.costs.specs.Instance.{pair_start, dom_of}
use Rattle.base.specs.Sums.Laws.{sum_to_sum_from, sum_from-last}
use Rattle.costs.specs.Lent.Steps.{dom_past_count}
use Rattle.costs.specs.Laws.Stream.{row_start, sizes_sum, pair_costs_lem}
use Rattle.costs.specs.Gather.{sizes_in}
use Rattle.costs.specs.Gathered.{unary_bytes, pair_bytes, with_other, gathered}
use Rattle.costs.specs.Gather.Sizes.{dom_same}
use Rattle.costs.specs.Gather.Laws.{unary_in_stream, with_own}

-- ---- what the code hands on

-- `before` bytes stand before n
pub record Opened (s : List ℕ) (before : ℕ) : Type 0 where
  pub is : before ≡ opening s
  pub most : before ≤ 1

-- n and the sizes of a seat are those of a stream that is long enough for them
pub record SeatIn (s : List ℕ) (seat : Seat) : Type 0 where
  pub units : seat.n ≡ units_of s
  pub array : seat.sizes ≡ sizes_in s
  pub most : seat.n ≤ 16
  pub small : (k : ℕ) → dom_of s k ≤ 16
  pub long : needed s ≤ length s

-- the bytes at which the costs of the pairs of the first m units begin, of each, where those of the first begin at byte `from`
pub record RowsTo (seat : Seat) (from m : ℕ) (rows : List ℕ) : Type 0 where
  pub are : (i : ℕ) → i < m → slice_index rows i ≡ from + 2 * row_start (dom_from seat) seat.n i
  pub most : (i : ℕ) → i < m → slice_index rows i ≤ 131072 + 2080800 * i

abbrev pub RowsOf : Seat → ℕ → List ℕ → Type 0
RowsOf seat from rows = RowsTo seat from seat.n rows

pub rows_none : (seat : Seat) (from : ℕ) (rows : List ℕ) → RowsTo seat from 0 rows
rows_none seat from rows = record { are = λ i l. absurd (omega arith); most = λ i l. absurd (omega arith) }

pub rows_more : (seat : Seat) (from a row : ℕ) (rows : List ℕ) → RowsTo seat from a rows → a < length rows
    → row ≡ from + 2 * row_start (dom_from seat) seat.n a → row ≤ 131072 + 2080800 * a → RowsTo seat from (a + 1) (slice_set rows a row)
rows_more seat from a row rows r room is small = record { are = λ i l. (at i (i == a) refl l).0; most = λ i l. (at i (i == a) refl l).1 }
  where
    at : (i : ℕ) (t : Bool) → (i == a) ≡ t → i < a + 1 → (slice_index (slice_set rows a row) i ≡ from + 2 * row_start (dom_from seat) seat.n i) × (slice_index (slice_set rows a row) i ≤ 131072 + 2080800 * i)
    at i true e l = rw (eqb-true i a e, get_or-set_same rows a row 0 room) (is, small)
    at i false e l = let b : i < a = below (eqb-false i a e) l in rw (get_or-set_other rows a i row 0 (eqb-false i a e)) (r.are i b, r.most i b)
      where
        below : (i ≢ a) → i < a + 1 → i < a
        below f l = omega arith

-- ---- sizes, and where costs begin

pub size_none : (s : List ℕ) (k : ℕ) → units_of s ≤ k → 0 ≡ dom_of s k
size_none s k h = sym (dom_past_count (units_of s) (after_units s) k h)

pub size_some : (s : List ℕ) (k : ℕ) → k < units_of s → slice_index s (opening s + 1 + k) ≡ dom_of s k
size_some s k h = sym (get_or-take (units_of s) (after_units s) k 0 h ∙ get_or-drop (opening s + 1) s k 0)

-- the form, by how many bytes stand before n
module _ {s : List ℕ} {before : ℕ} (opened : Opened s before) where
  pub opened_one : before ≡ 0 → in_form_two s ≡ false
  opened_one e = form_one s (sym opened.is ∙ e)

  pub opened-two : (before ≢ 0) → in_form_two s ≡ true
  opened-two h = form_two_lem s (λ e. h (opened.is ∙ e))

pub units_there : {s : List ℕ} {before : ℕ} → Opened s before → slice_index s before ≡ units_of s
units_there {s} opened = ap (λ o. slice_index s o) opened.is

-- all sizes, those that are missing counted as 0, add up to those that are there
sizes_all : (l : List ℕ) (d : ℕ) → sum_to (λ k. slice_index l k) (length l + d) ≡ sum_list l
sizes_all l zero = rw add-zero (sizes_sum l)
sizes_all l (suc d) =
    let e : length l + suc d ≡ suc (length l + d) = omega arith in
    rw e (omega (arith, sizes_all l d, get_or-eq_default l 0 {n = length l + d} (omega arith)))

sizes_added : (s : List ℕ) → sum_from (dom_of s) 0 (units_of s) ≡ sum_list (sizes_of s)
sizes_added s =
    let e : units_of s ≡ length (sizes_of s) + (units_of s - length (sizes_of s)) = omega (arith, length-take (units_of s) (after_units s)) in
    sym (sum_to_sum_from (dom_of s) (units_of s)) ∙ ap (sum_to (dom_of s)) e ∙ sizes_all (sizes_of s) (units_of s - length (sizes_of s))

-- the pair costs begin behind the unary costs, one for each value where a byte stands before n
pub pairs-begin : {s : List ℕ} {before : ℕ} → Opened s before → (at values : ℕ) → at ≡ unaries_at s → values ≡ sum_from (dom_of s) 0 (units_of s) → at + 2 * (before * values) ≡ pairs_at s
pairs-begin {s} opened at values p q = rw (p, q, opened.is, sizes_added s, unaries_found s (opening s) (units_of s) refl refl)

-- ---- one more

pub sum_more : (f : ℕ → ℕ) (lo i : ℕ) → sum_from f lo (i + 1) ≡ sum_from f lo i + f (lo + i)
sum_more f lo i = rw add-one (sum_from-last f lo i)

-- the first zeros of some
zeros-first : (n m : ℕ) → m ≤ n → take m (replicate {A = ℕ} n 0) ≡ replicate m 0
zeros-first n zero h = refl
zeros-first zero (suc m) h = absurd (omega arith)
zeros-first (suc n) (suc m) h = ap (λ (l : List ℕ). 0 ∷ l) (zeros-first n m (omega arith))

-- an array filled from the front, to its end
pub fill_done : (i : ℕ) (s t : List ℕ) → length s ≤ i → length t ≤ i → take i s ++ drop i t ≡ s
fill_done i s t hs ht = rw (take_all i s hs, drop_of_length-le t ht, append-nil)

-- ---- parts copied

-- `count` bytes of a list from `from` on are those of w, and copied they are put
pub record Part (source w : List ℕ) (from count : ℕ) : Type 0 where
  pub inside : from + count ≤ length source
  pub counted : count ≡ length w
  pub put : (l : List ℕ) (at : ℕ) → paste l at (drop from source) count ≡ put_at l at w

part_of : (source w : List ℕ) (from count : ℕ) → from + count ≤ length source → w ≡ take count (drop from source) → Part source w from count
part_of source w from count inside is =
    let size : length (take count (drop from source)) ≡ count = length-take-le count (drop from source) (simp length-drop (omega arith)) in
    record { inside = inside; counted = rw is (sym size); put = λ l at. rw (is, size) }

-- where the costs of a pair begin, from where those of the pairs of its lower unit do
pub pair_from_lem : (dom : ℕ → ℕ) (n i j from row a c : ℕ) → row ≡ from + 2 * row_start dom n i → a ≡ dom i → c ≡ sum_from dom (i + 1) (j - (i + 1))
    → row + 2 * (a * c) ≡ from + 2 * pair_start dom n i j
pair_from_lem dom n i j from row a c begins lower between =
    let b : c ≡ sum_from dom (suc i) (j - suc i) = rw add-one at between in
    rw (begins, lower, b) (omega arith)

-- from the numbers that the code works out
module _ {s : List ℕ} {seat : Seat} (within : SeatIn s seat) where
  same_sizes : dom_from seat ≡ dom_of s
  same_sizes = dom_same s within.units within.array within.most

  pub values_same : sum_from (dom_from seat) 0 seat.n ≡ sum_from (dom_of s) 0 (units_of s)
  values_same = ap (λ f. sum_from f 0 seat.n) same_sizes ∙ ap (sum_from (dom_of s) 0) within.units

  -- the bytes of a pair
  pub pair_part : (i j from a b : ℕ) → i < j → j < seat.n → from ≡ pairs_at s + 2 * pair_start (dom_from seat) seat.n i j → a ≡ dom_from seat i → b ≡ dom_from seat j
      → Part s (pair_bytes s i j) from (2 * (a * b))
  pair_part i j from a b order inside start lower higher =
      let f : from ≡ pairs_at s + 2 * pair_start (dom_of s) (units_of s) i j =
      start ∙ ap (λ d. pairs_at s + 2 * pair_start d seat.n i j) same_sizes ∙ ap (λ m. pairs_at s + 2 * pair_start (dom_of s) m i j) within.units in
      let l : a ≡ dom_of s i = lower ∙ ap (λ d. d i) same_sizes in
      let h : b ≡ dom_of s j = higher ∙ ap (λ d. d j) same_sizes in
      let room = pair_costs_lem s (omega (arith, within.long)) i j order (omega (arith, within.units)) in
      part_of s (pair_bytes s i j) from (2 * (a * b)) (rw (l, h) (omega (arith, within.long))) (rw (f, l, h))

  -- the bytes of the unit's unary costs: in form one zeros
  module _ (inside : pred seat.own < seat.n) (d : ℕ) (size : d ≡ dom_from seat (pred seat.own)) where
    own_size : d ≡ dom_of s (pred seat.own)
    own_size = size ∙ ap (λ f. f (pred seat.own)) same_sizes

    pub unary_zeros : in_form_two s ≡ false → unary_bytes s (pred seat.own) ≡ replicate (2 * d) 0
    unary_zeros one = rw (one, own_size)

    pub zeros-part : in_form_two s ≡ false → Part (replicate 32 0) (unary_bytes s (pred seat.own)) 0 (2 * d)
    zeros-part one =
        let few : 2 * d ≤ 32 = omega (arith, own_size, within.small (pred seat.own)) in
        part_of (replicate 32 0) (unary_bytes s (pred seat.own)) 0 (2 * d) (omega arith) (rw (one, zeros-first 32 (2 * d) few, own_size))

    -- and in form two where the stream has them
    pub unary_part : in_form_two s ≡ true → (at sum : ℕ) → at ≡ unaries_at s → sum ≡ sum_from (dom_from seat) 0 (pred seat.own) → Part s (unary_bytes s (pred seat.own)) (at + 2 * sum) (2 * d)
    unary_part two at sum begin before =
        let e : sum ≡ sum_to (dom_of s) (pred seat.own) = before ∙ ap (λ f. sum_from f 0 (pred seat.own)) same_sizes ∙ sym (sum_to_sum_from (dom_of s) (pred seat.own)) in
        let room = unary_in_stream s within.long (pred seat.own) (omega (arith, within.units)) two in
        part_of s (unary_bytes s (pred seat.own)) (at + 2 * sum) (2 * d) (omega (arith, own_size)) (rw (two, begin, e, own_size))

-- nothing put changes nothing
pub put-nothing : (d : List ℕ) (at : ℕ) → d ≡ put_at d at []
put-nothing d at = paste-zero d at []

-- and the unit itself has no costs with itself
pub put-own : (s d : List ℕ) (k j at : ℕ) → j ≡ k → (at ≡ at + length (with_other s k j)) × (d ≡ put_at d at (with_other s k j))
put-own s d k j at e = rw (e, with_own s k) (omega arith, put-nothing d at)

-- ---- the unary costs, and the others behind them, are those gathered

pub gathered-parts : (s : List ℕ) (own : ℕ) → length (gathered s own) ≡ length (unary_bytes s (pred own)) + length (join_to (with_other s (pred own)) (units_of s))
unfolding gathered
gathered-parts s own = length-append (unary_bytes s (pred own)) (join_to (with_other s (pred own)) (units_of s))

pub put-gathered : (s : List ℕ) (own at : ℕ) (l first out : List ℕ) → at ≡ length (unary_bytes s (pred own)) → first ≡ put_at l 0 (unary_bytes s (pred own))
    → out ≡ put_at first at (join_to (with_other s (pred own)) (units_of s)) → out ≡ gathered s own ++ drop (length (gathered s own)) l
unfolding gathered
put-gathered s own at l first out p q r =
    let u : List ℕ = unary_bytes s (pred own) in
    let w : List ℕ = join_to (with_other s (pred own)) (units_of s) in
    let e : at ≡ 0 + length u = p ∙ sym (zero-add (length u)) in
    r ∙ rw (q, e, put_after l u w 0 (omega arith), zero-add)
