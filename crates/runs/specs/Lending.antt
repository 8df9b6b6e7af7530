-- The costs of all units of a table, gathered once for a run: one unit's behind the other's, in front of a buffer, and where each begins.
-- By the lengths of what stands before. Assumes nothing.
use Prim.Native.Nat.{ℕ, zero, suc, ◌+◌, ◌*◌, ◌-◌, ◌≤◌, ◌<◌}
use Rattle.std.specs.Prelude.{◌≡◌, refl, Bool, true, false, eqb, get_or, set, take}
use Rattle.std.proofs.Common.{sym, ◌∙◌, add-one, eqb-true, take_at, drop_at, get_or-set_same, get_or-set_other}
use Rattle.std.proofs.Math.Path.{ap}
use mathlib.Core.List.{List, [], ◌++◌, append-nil, append_assoc}
use native.Mathlib.Omega.{arith}
use Rattle.std.proofs.lemmas.Bool.{eqb-false}
use Rattle.std.proofs.Math.ListN.{length, drop, length-append}
use Rattle.base.specs.Limits.{places, costs_size}
use Rattle.base.specs.Put.{put_at, put_within}
use Rattle.base.specs.Put.Laws.{put-fits, put_behind}
use Rattle.table.specs.Stream.{units_of, Accepted}
use Rattle.table.specs.StreamLaws.{accepted_units}
use Rattle.costs.specs.declared.ValueOrder.{ValueOrder}
use Rattle.costs.specs.Instance.{lent_view}
use Rattle.costs.specs.Knowing.{Knows}
use Rattle.costs.specs.Gather.{sizes_in}
use Rattle.costs.specs.Gathered.{gathered}
use Rattle.costs.specs.Gather.Laws.{gathered-most}
use Rattle.runs.specs.declared.Outlook.{Outlook}

-- room for the costs of 16 units
abbrev pub lent_size : ℕ
lent_size = places * costs_size

-- the costs of units 1 to k
unfoldable pub lent_to : List ℕ → ℕ → List ℕ
lent_to s zero = []
lent_to s (suc k) = lent_to s k ++ gathered s (suc k)

-- k units' costs in front of what the buffer held, and where each unit's begin and end
pub record Lending (s : List ℕ) (k : ℕ) (starts was bytes : List ℕ) : Type 0 where
  pub begins : (j : ℕ) → j ≤ k → get_or starts j 0 ≡ length (lent_to s j)
  pub whole : bytes ≡ lent_to s k ++ drop (length (lent_to s k)) was

abbrev pub Lent : List ℕ → List ℕ → List ℕ → Type 0
Lent s starts bytes = (was : List ℕ) × Lending s (units_of s) starts was bytes

module _ (s : List ℕ) (ok : Accepted s) where
  pub lent-most : (k : ℕ) → k ≤ units_of s → length (lent_to s k) ≤ costs_size * k
  unfolding lent_to
  lent-most zero h = omega arith
  lent-most (suc k) h = omega (arith, length-append (lent_to s k) (gathered s (suc k)), lent-most k (omega arith), gathered-most s ok (suc k) (omega arith) h)

-- none yet
pub lending_none : (s starts bytes : List ℕ) → get_or starts 0 0 ≡ 0 → Lending s 0 starts bytes bytes
unfolding lent_to
lending_none s starts bytes e = record { begins = λ j l. none j l; whole = refl }
  where
    none : (j : ℕ) → j ≤ 0 → get_or starts j 0 ≡ length (lent_to s j)
    none zero l = e
    none (suc j) l = absurd (omega arith)

-- one unit's more
pub lending_more : (s : List ℕ) (k : ℕ) (starts was bytes : List ℕ) → Lending s k starts was bytes → (at : ℕ) → at ≡ length (lent_to s k) → (g : List ℕ) → g ≡ gathered s (suc k)
    → at + length g ≤ length bytes → suc k < length starts → Lending s (suc k) (set starts (suc k) (at + length g)) was (put_within bytes at g)
unfolding lent_to
lending_more s k starts was bytes l at e g is fits room = record {
  begins = λ j h. by_place (eqb j (suc k)) refl h;
  whole = put-fits bytes g at fits ∙ ap (λ b. put_at b at g) l.whole ∙ put_behind (lent_to s k) g was at e ∙ ap (λ b. (lent_to s k ++ b) ++ drop (length (lent_to s k ++ b)) was) is;
}
  where
    by_place : {j : ℕ} (t : Bool) → eqb j (suc k) ≡ t → j ≤ suc k → get_or (set starts (suc k) (at + length g)) j 0 ≡ length (lent_to s j)
    by_place {j} true q h =
        rw (eqb-true j (suc k) q) (get_or-set_same starts (suc k) (at + length g) 0 room ∙ rw (e, is) (sym (length-append (lent_to s k) (gathered s (suc k)))))
    by_place {j} false q h = get_or-set_other starts (suc k) j (at + length g) 0 (eqb-false j (suc k) q) ∙ l.begins j (below (eqb-false j (suc k) q) h)
      where
        below : (j ≡ suc k → ⊥) → j ≤ suc k → j ≤ k
        below f h = omega arith

-- a turn of the loop that lends, of which `part` are the bytes gathered
module _ (s : List ℕ) (ok : Accepted s) (k at count : ℕ) (starts was bytes part : List ℕ) (next : k < units_of s) (places : length starts ≡ 17) (room : lent_size ≤ length bytes) (e : at ≡ length (lent_to s k))
    (is : part ≡ gathered s (k + 1)) (many : count ≤ costs_size) (long : count ≡ length (gathered s (k + 1))) where
  size : count ≡ length part
  size = long ∙ ap length (sym is)

  pub turn_at : at + count ≡ length (lent_to s (k + 1))
  unfolding lent_to
  turn_at = rw (size, is, e, add-one) (sym (length-append (lent_to s k) (gathered s (suc k))))

  pub turn-fits : at + count ≤ length bytes
  turn-fits = omega (arith, lent-most s ok k (omega arith), (accepted_units s ok).1)

  pub turn-lent : Lending s k starts was bytes → Lending s (k + 1) (set starts (k + 1) (at + count)) was (put_within bytes at part)
  turn-lent l = rw (add-one, size) (lending_more s k starts was bytes l at e part (rw add-one at is) (omega (arith, turn-fits, size)) (omega (arith, (accepted_units s ok).1)))

-- ---- the costs of one unit

-- they stand behind those before, and others behind them
cut : (s : List ℕ) (n k : ℕ) → k < n → (more : List ℕ) × (lent_to s n ≡ lent_to s (suc k) ++ more)
unfolding lent_to
cut s zero k h = absurd (omega arith)
cut s (suc n) k h = by_place (eqb k n) refl (λ l. cut s n k l)
  where
    below : (k ≡ n → ⊥) → k < n
    below f = omega arith

    by_place : (t : Bool) → eqb k n ≡ t → (k < n → (more : List ℕ) × (lent_to s n ≡ lent_to s (suc k) ++ more)) → (more : List ℕ) × (lent_to s (suc n) ≡ lent_to s (suc k) ++ more)
    by_place true q f = ([], ap (λ j. lent_to s (suc j)) (sym (eqb-true k n q)) ∙ sym (append-nil (lent_to s (suc k))))
    by_place false q f =
        let c = f (below (eqb-false k n q)) in
        (c.0 ++ gathered s (suc n), ap (λ l. l ++ gathered s (suc n)) c.1 ∙ append_assoc (lent_to s (suc k)) c.0 (gathered s (suc n)))

module _ (s starts bytes : List ℕ) (l : Lent s starts bytes) (k : ℕ) (h : k < units_of s) where
  rest : List ℕ
  rest = (cut s (units_of s) k h).0 ++ drop (length (lent_to s (units_of s))) l.0

  stands : bytes ≡ lent_to s k ++ (gathered s (suc k) ++ rest)
  unfolding lent_to rest
  stands =
      l.1.whole ∙ ap (λ x. x ++ drop (length (lent_to s (units_of s))) l.0) (cut s (units_of s) k h).1
      ∙ append_assoc (lent_to s k ++ gathered s (suc k)) (cut s (units_of s) k h).0 (drop (length (lent_to s (units_of s))) l.0) ∙ append_assoc (lent_to s k) (gathered s (suc k)) rest

  from : get_or starts k 0 ≡ length (lent_to s k)
  from = l.1.begins k (omega arith)

  to : get_or starts (k + 1) 0 ≡ length (lent_to s k) + length (gathered s (suc k))
  unfolding lent_to
  to = l.1.begins (k + 1) (omega arith) ∙ ap (λ j. length (lent_to s j)) (add-one k) ∙ length-append (lent_to s k) (gathered s (suc k))

  pub part-order : get_or starts k 0 ≤ get_or starts (k + 1) 0
  part-order = omega (arith, from, to)

  pub part_end : get_or starts (k + 1) 0 ≤ length bytes
  part_end = omega (arith, to, ap length stands, length-append (lent_to s k) (gathered s (suc k) ++ rest), length-append (gathered s (suc k)) rest)

  pub part_costs : take (get_or starts (k + 1) 0 - get_or starts k 0) (drop (get_or starts k 0) bytes) ≡ gathered s (suc k)
  part_costs =
      let n : length (gathered s (suc k)) ≡ get_or starts (k + 1) 0 - get_or starts k 0 = omega (arith, from, to) in
      ap (take (get_or starts (k + 1) 0 - get_or starts k 0)) (ap (drop (get_or starts k 0)) stands ∙ drop_at (lent_to s k) (gathered s (suc k) ++ rest) (get_or starts k 0) (sym from))
      ∙ take_at (gathered s (suc k)) rest (get_or starts (k + 1) 0 - get_or starts k 0) n

-- ---- h of all units' values

abbrev pub no_outlook : Outlook
no_outlook = record { ahead = [] }

-- of the first i units h of 16 values is known, in the costs lent with them
pub record Told (order : ValueOrder) (s : List ℕ) (k : ℕ) (look : Outlook) : Type 0 where
  pub long : length look.ahead ≡ 16
  pub knows : Knows (lent_view order (suc k) (units_of s) (sizes_in s) (gathered s (suc k))) look.ahead

abbrev pub Looked : ValueOrder → List ℕ → ℕ → List Outlook → Type 0
Looked order s i looks = (k : ℕ) → k < i → Told order s k (get_or looks k no_outlook)

module _ (order : ValueOrder) (s : List ℕ) (looks : List Outlook) where
  pub looked_none : Looked order s 0 looks
  looked_none k l = absurd (omega arith)

  -- one unit more
  pub looked_more : (i : ℕ) (look : Outlook) → i < length looks → Looked order s i looks → Told order s i look → Looked order s (suc i) (set looks i look)
  looked_more i look in_List old told k l = go (eqb k i) refl
    where
      go : (t : Bool) → eqb k i ≡ t → Told order s k (get_or (set looks i look) k no_outlook)
      go true e = rw (eqb-true k i e, get_or-set_same looks i look no_outlook in_List) told
      go false e = let ne = eqb-false k i e in rw (get_or-set_other looks i k look no_outlook ne) (old k (omega (arith, l, ne)))

  -- so it is where a message is handed over
  module _ (all : Looked order s (units_of s) looks) where
    pub looked_long : (k : ℕ) → k < units_of s → length (get_or looks k no_outlook).ahead ≡ 16
    looked_long k l = (all k l).long

    pub looked_at : (own n : ℕ) (sizes lent : List ℕ) → 1 ≤ own → own ≤ units_of s → n ≡ units_of s → sizes ≡ sizes_in s → lent ≡ gathered s own → Knows (lent_view order own n sizes lent) (get_or looks (own - 1) no_outlook).ahead
    looked_at zero n sizes lent first last units array is = absurd (omega arith)
    looked_at (suc k) n sizes lent first last units array is = let e : suc k - 1 ≡ k = omega arith in rw (e, units, array, is) (all k (omega arith)).knows
