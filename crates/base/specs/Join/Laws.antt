-- Laws of joined lists: how long they are, where each of them stands, and a turn of a loop that writes them. By induction on how many there are.
-- Assumes nothing.
use Rattle.std.specs.Prelude.{ℕ, zero, suc, ◌+◌, ◌≤◌, ◌<◌, Bool, true, false, List, ◌++◌, ◌≡◌, refl, ltb, length, get_or}
use Rattle.std.proofs.Common.{◌∙◌, add-one, arith, ltb-true, ltb-false, length-append, get_or-append-add}
use Rattle.std.proofs.Math.ListN.{get_or-append}
use Rattle.base.specs.Sums.{sum_to}
use Rattle.base.specs.Put.{put_at}
use Rattle.base.specs.Put.Laws.{put_after}
use Rattle.base.specs.Join.{join_to}

module _ (f : ℕ → List ℕ) where
  -- one list more
  pub join_more : (m : ℕ) → join_to f (m + 1) ≡ join_to f m ++ f m
  join_more m = rw add-one

  -- each list stands within the whole
  pub join_room : (k m : ℕ) → k < m → length (join_to f k) + length (f k) ≤ length (join_to f m)
  join_room k zero h = absurd (omega arith)
  join_room k (suc m) h = go (ltb k m) refl (join_room k m)
    where
      go : (t : Bool) → ltb k m ≡ t → (k < m → length (join_to f k) + length (f k) ≤ length (join_to f m)) → length (join_to f k) + length (f k) ≤ length (join_to f m ++ f m)
      go true e before = omega (arith, before (ltb-true k m e), length-append (join_to f m) (f m))
      go false e before = let q : k ≡ m = omega (arith, ltb-false k m e) in rw q (omega (arith, length-append (join_to f m) (f m)))

  -- what stands at place x of list k
  pub join_byte : (m k x : ℕ) → k < m → x < length (f k) → get_or (join_to f m) (length (join_to f k) + x) 0 ≡ get_or (f k) x 0
  join_byte zero k x h l = absurd (omega arith)
  join_byte (suc m) k x h l = go (ltb k m) refl (λ b. join_byte m k x b l)
    where
      go : (t : Bool) → ltb k m ≡ t → (k < m → get_or (join_to f m) (length (join_to f k) + x) 0 ≡ get_or (f k) x 0) → get_or (join_to f m ++ f m) (length (join_to f k) + x) 0 ≡ get_or (f k) x 0
      go true e before =
          let b = ltb-true k m e in
          get_or-append (join_to f m) (f m) 0 (length (join_to f k) + x) (omega (arith, join_room k m b)) ∙ before b
      go false e before = let q : k ≡ m = omega (arith, ltb-false k m e) in rw q (get_or-append-add (join_to f m) (f m) x 0)

  -- lists of known lengths
  module _ (size : ℕ → ℕ) (sized : (k : ℕ) → length (f k) ≡ size k) where
    pub length_join : (m : ℕ) → length (join_to f m) ≡ sum_to size m
    length_join zero = refl
    length_join (suc m) = omega (arith, length-append (join_to f m) (f m), length_join m, sized m)

    pub join_at : (m k x : ℕ) → k < m → x < size k → get_or (join_to f m) (sum_to size k + x) 0 ≡ get_or (f k) x 0
    join_at m k x h l = rw (← length_join k) (join_byte m k x h (rw (sized k) l))

-- a turn of a loop that writes lists behind one another, from `at` on: w is written behind those before it
pub join_turn : (f : ℕ → List ℕ) (k at place : ℕ) (l now w : List ℕ) → at ≤ length l → now ≡ put_at l at (join_to f k) → place ≡ at + length (join_to f k) → w ≡ f k
    → put_at now place w ≡ put_at l at (join_to f (k + 1))
join_turn f k at place l now w room e p q = rw (e, p, q, join_more f k) (put_after l (join_to f k) (f k) at room)
