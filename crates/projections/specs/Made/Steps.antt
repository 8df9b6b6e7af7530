-- What the code that holds a table's costs goes by: numbers written one by one, where it reads them, and what it gives and leaves. Assumes nothing.
use Rattle.std.specs.Prelude.{ℕ, ◌+◌, ◌*◌, ◌≤◌, ◌<◌, Bool, cond, set, take}
use Rattle.std.proofs.Math.Path.{◌≡◌, refl, sym, ap}
use Rattle.std.proofs.Common.{◌∙◌, zero-add, arith, take_at}
use Rattle.std.proofs.Math.Bool.{true, false}
use mathlib.Core.List.{List, [], ◌∷◌, ◌++◌}
use Rattle.std.proofs.Math.Nat.{add-zero}
use Rattle.std.proofs.Math.Dec.{eqb, ltb}
use Rattle.std.proofs.Math.ListN.{length, drop}
use Rattle.std.proofs.Math.Seq.{paste-zero, drop-append-add}
use Rattle.std.proofs.lemmas.List.Edits.{sets-eq}
use borrow.Author.Tests.{ne_eqb, lt-ltb, le-ltb, ltb-false}
use Rattle.base.specs.declared.Length.{Length}
use Rattle.base.specs.Bytes.{u16_at}
use Rattle.base.specs.Join.Laws.{join_turn}
use Rattle.base.specs.Put.{put_at}
use Rattle.base.specs.Put.Laws.{put_after}
use Rattle.base.specs.Refusal.Laws.{or_first, or_right}
use Rattle.base.specs.Sums.{sum_from, sum_to}
use Rattle.table.specs.Stream.{in_form_two, opening, units_of, unaries_in, unaries_at, pairs_at, stream_refusal, Accepted}
use Rattle.table.specs.StreamLaws.{opening_one, opening-two, unaries_by, accepted_units}
use Rattle.costs.specs.Cost.{as_number, pair_cost}
use Rattle.costs.specs.Instance.{cost_number, dom_in, dom_of}
use Rattle.costs.specs.Gather.{sizes_in}
use Rattle.costs.specs.Gather.Sizes.{dom_same}
use Rattle.costs.specs.Laws.Stream.{unaries_from, row_start, unary_number_at, cost_number_at, accepted-there, unaries_in_stream}
use Rattle.projections.specs.Steps.{sum_upto}
use Rattle.projections.specs.Made.{numbers, own_number, pair_number, held_of, held_refusal, hold_of, hold_into, projected_of, bound_of, bound_into}
use Rattle.projections.specs.declared.Moved.{Moved}
use Rattle.projections.specs.Moves.{held_by, answer_of}
use Rattle.projections.specs.All.{project_all_of}
use Rattle.projections.specs.Made.Laws.{numbers_length, held-count}

-- ---- numbers one by one: none yet, and one more
pub numbers_none : (f : ℕ → ℕ) (l : List ℕ) (at : ℕ) → l ≡ put_at l at (numbers f 0)
numbers_none f l at = paste-zero l at []

pub numbers-next : (f : ℕ → ℕ) (l m : List ℕ) (at k x : ℕ) → at + k < length l → length m ≡ length l → m ≡ put_at l at (numbers f k) → x ≡ f k
    → set m (at + k) x ≡ put_at l at (numbers f (k + 1))
numbers-next f l m at k x h same e q =
    sets-eq (x ∷ []) m (at + k) (omega arith)
    ∙ join_turn (λ j. f j ∷ []) k at (at + k) l m (x ∷ []) (omega arith) e (omega (arith, numbers_length f k)) (ap (λ (y : ℕ). y ∷ []) q)

-- ---- as the code reads them

pub own_read : (s : List ℕ) (before from k : ℕ) → before ≡ opening s → from ≡ unaries_at s → cond (eqb before 0) 0 (u16_at s (from + 2 * k)) ≡ own_number s k
own_read s before from k e q = rw (e, q) (go (in_form_two s) refl)
  where
    go : (t : Bool) → in_form_two s ≡ t → cond (eqb (opening s) 0) 0 (u16_at s (unaries_at s + 2 * k)) ≡ cond t (cost_number (unaries_from s) k) 0
    go true f = ap (λ (b : ℕ). cond (eqb b 0) 0 (u16_at s (unaries_at s + 2 * k))) (opening-two s f) ∙ sym (unary_number_at s k)
    go false f = ap (λ (b : ℕ). cond (eqb b 0) 0 (u16_at s (unaries_at s + 2 * k))) (opening_one s f)

pub pair_read : (s : List ℕ) (from k : ℕ) → from ≡ pairs_at s → as_number (pair_cost (u16_at s (from + 2 * k))) ≡ pair_number s k
pair_read s from k q = rw q (ap (λ (x : ℕ). as_number (pair_cost x)) (sym (cost_number_at s k)))

-- ---- how many there are, as the code counts them

module _ (s : List ℕ) (ok : Accepted s) {n : ℕ} {sizes : List ℕ} (units : n ≡ units_of s) (array : sizes ≡ sizes_in s) where
  pub units_most : n ≤ 16
  units_most = omega (arith, units, accepted_units s ok)

  dom_is : dom_in n sizes ≡ dom_of s
  dom_is = dom_same s units array units_most

  pub own-count : (sum m : ℕ) → sum ≡ sum_from (dom_in n sizes) 0 m → m ≡ n → sum ≡ sum_to (dom_of s) (units_of s)
  own-count sum m e q = sum_upto (dom_in n sizes) sum m n e q ∙ ap (λ (d : ℕ → ℕ). sum_to d n) dom_is ∙ ap (λ (k : ℕ). sum_to (dom_of s) k) units

  pub pair_count_lem : (sum m : ℕ) → sum ≡ row_start (dom_in n sizes) n m → m ≡ n → sum ≡ row_start (dom_of s) (units_of s) (units_of s)
  pair_count_lem sum m e q =
      e ∙ ap (λ (k : ℕ). row_start (dom_in n sizes) n k) q ∙ ap (λ (d : ℕ → ℕ). row_start d n n) dom_is ∙ ap (λ (k : ℕ). row_start (dom_of s) k k) units

-- where the pair costs begin
pub pairs_from : (s : List ℕ) → Accepted s → (before from own : ℕ) → before ≡ opening s → from ≡ unaries_at s → own ≡ sum_to (dom_of s) (units_of s) → from + 2 * (before * own) ≡ pairs_at s
pairs_from s ok before from own e q c =
    let u : before * own ≡ unaries_in s = ap (λ (x : ℕ). x * own) e ∙ ap (λ (x : ℕ). opening s * x) (c ∙ unaries_in_stream s (accepted-there s ok)) ∙ sym (unaries_by s) in
    omega (arith, q, u)

-- ---- what a call gives and leaves

module _ (s out : List ℕ) where
  pub hold_refused : (r : ℕ) → r ≡ stream_refusal s → (r ≡ 0 → ⊥) → (◌≡◌ {A = Length} (record { refusal = r; length = 0 }) (hold_of s (length out))) × (out ≡ hold_into s out)
  unfolding hold_of hold_into held_refusal
  hold_refused r e ne =
      let z : held_refusal s (length out) ≡ r = or_first (stream_refusal s) (cond (ltb (length out) (length (held_of s))) 13 0) (λ q. ne (e ∙ q)) ∙ sym e in
      let f : eqb r 0 ≡ false = ne_eqb r 0 ne in
      (rw (z, f), rw (z, f))

  module _ (ok : stream_refusal s ≡ 0) (count : ℕ) (all : count ≡ length (held_of s)) where
    pub hold_short : length out < count → (◌≡◌ {A = Length} (record { refusal = 13; length = 0 }) (hold_of s (length out))) × (out ≡ hold_into s out)
    unfolding hold_of hold_into held_refusal
    hold_short h =
        let z : held_refusal s (length out) ≡ 13 = rw (ok, lt-ltb (length out) (length (held_of s)) (omega arith)) in
        (rw z, rw z)

    pub hold_done : (m : List ℕ) → count ≤ length out → m ≡ put_at out 0 (held_of s) → (◌≡◌ {A = Length} (record { refusal = 0; length = count }) (hold_of s (length out))) × (m ≡ hold_into s out)
    unfolding hold_of hold_into held_refusal
    hold_done m h e =
        let z : held_refusal s (length out) ≡ 0 = rw (ok, le-ltb (length out) (length (held_of s)) (omega arith)) in
        (rw (z, all), rw z (e ∙ rw (zero-add (length (held_of s)))))

-- own costs written, then the pair costs behind them
pub both_put : (s out m w : List ℕ) (own pairs : ℕ) → own ≡ sum_to (dom_of s) (units_of s) → pairs ≡ row_start (dom_of s) (units_of s) (units_of s)
    → m ≡ put_at out 0 (numbers (own_number s) own) → w ≡ put_at m own (numbers (pair_number s) pairs) → w ≡ put_at out 0 (held_of s)
unfolding held_of
both_put s out m w own pairs a b e q =
    let place : own ≡ 0 + length (numbers (own_number s) own) = omega (arith, numbers_length (own_number s) own) in
    q ∙ ap (λ (l : List ℕ). put_at l own (numbers (pair_number s) pairs)) e
    ∙ ap (λ (k : ℕ). put_at (put_at out 0 (numbers (own_number s) own)) k (numbers (pair_number s) pairs)) place
    ∙ put_after out (numbers (own_number s) own) (numbers (pair_number s) pairs) 0 (omega arith)
    ∙ rw (a, b)

pub all_count : (s : List ℕ) (own pairs : ℕ) → own ≡ sum_to (dom_of s) (units_of s) → pairs ≡ row_start (dom_of s) (units_of s) (units_of s) → own + pairs ≡ length (held_of s)
all_count s own pairs a b = omega (arith, a, b, held-count s)

-- ---- a lower bound, of the costs that were held

module _ (s out : List ℕ) where
  hold_number : (hold_of s (length out)).refusal ≡ held_refusal s (length out)
  unfolding hold_of
  hold_number = refl

  pub bound_refused : (r : ℕ) (l : List ℕ) → ◌≡◌ {A = Length} (record { refusal = r; length = 0 }) (hold_of s (length out)) → l ≡ hold_into s out → (r ≡ 0 → ⊥)
      → (◌≡◌ {A = Moved} (record { refusal = r; floor = 0 }) (bound_of s (length out))) × (l ≡ bound_into s out)
  unfolding hold_into bound_of bound_into
  bound_refused r l e q ne =
      let z : held_refusal s (length out) ≡ r = sym (ap (λ (x : Length). x.refusal) e ∙ hold_number) in
      let f : eqb r 0 ≡ false = ne_eqb r 0 ne in
      (rw (z, f), q ∙ rw (z, f))

  module _ (count : ℕ) (e : ◌≡◌ {A = Length} (record { refusal = 0; length = count }) (hold_of s (length out))) where
    none : held_refusal s (length out) ≡ 0
    none = sym hold_number ∙ sym (ap (λ (x : Length). x.refusal) e)

    pub held_length : count ≡ length (held_of s)
    unfolding hold_of
    held_length = ap (λ (x : Length). x.length) e ∙ rw none

    pub held_room : count ≤ length out
    unfolding held_refusal
    held_room =
        let short : ◌≡◌ {A = ℕ} (cond (ltb (length out) (length (held_of s))) 13 0) 0 = or_right (stream_refusal s) (cond (ltb (length out) (length (held_of s))) 13 0) none in
        go (ltb (length out) (length (held_of s))) refl short
      where
        go : (t : Bool) → ltb (length out) (length (held_of s)) ≡ t → ◌≡◌ {A = ℕ} (cond t 13 0) 0 → count ≤ length out
        go true q z = absurd (omega arith)
        go false q z = omega (arith, held_length, ltb-false (length out) (length (held_of s)) q)

    module _ (l : List ℕ) (q : l ≡ hold_into s out) where
      held_front : l ≡ held_of s ++ drop (length (held_of s)) out
      unfolding hold_into
      held_front = q ∙ rw none

      -- the costs are the part that is lent on
      pub held-part : take count (drop 0 l) ≡ held_of s
      held-part = rw held_front (take_at (held_of s) (drop (length (held_of s)) out) count (sym held_length))

      pub bound_left : (m : Moved) (new : List ℕ) (k : ℕ) → m ≡ answer_of (projected_of s) → new ≡ (projected_of s).held.costs → k ≡ length new → k ≡ count
          → (m ≡ bound_of s (length out)) × (take 0 l ++ (new ++ drop k (drop 0 l)) ≡ bound_into s out)
      unfolding bound_of bound_into
      bound_left m new k a b c d =
          let behind : drop k l ≡ drop k out = ap (λ (x : List ℕ). drop k x) held_front ∙ past (held_of s) (drop (length (held_of s)) out) k (d ∙ held_length) ∙ ap (λ (j : ℕ). drop j out) (sym (d ∙ held_length)) in
          (rw none a, rw (none, ← b, ← c) (ap (λ (x : List ℕ). new ++ x) behind))
        where
          past : (p x : List ℕ) (j : ℕ) → j ≡ length p → drop j (p ++ x) ≡ x
          past p x j h = rw (h, ← add-zero (length p)) (drop-append-add p x 0)

pub projected_is : (s sizes part : List ℕ) (n : ℕ) → n ≡ units_of s → sizes ≡ sizes_in s → part ≡ held_of s → project_all_of n sizes (held_by 0 part) ≡ projected_of s
projected_is s sizes part n a b c = rw (a, b, c)
