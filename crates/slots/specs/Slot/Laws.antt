-- The numbering is one to one between the triples that the rules allow and the cells that n units use, in 02's order.
--     twice-triangle, triangle-next, triangle_mono, triangle-row     the pairs of m units
--     Units, slot_if_allowed, Allowed, fields_allowed, read_allowed     what the tests say, and that a message that reads is allowed
--     slot_used                             an allowed triple's cell is one of those used
--     Before, slot_order                    02: "ordered by kind, sender, receiver"
--     slot_apart                            no two share a cell
--     slot_each                             each of those used is a triple's
--     three_hundred, used_fits, slot_bytes_lem  02: "300 cells for 16 units", "The pool is 19,200 bytes"
-- Assumes nothing.
use Rattle.std.specs.Prelude.{◌≡◌, ℕ, zero, suc, ◌+◌, ◌-◌, ◌*◌, ◌/◌, ◌<◌, ◌≤◌, Bool, true, false, cond, ◌&&◌, ◌||◌, ◌≢◌, ◌⊎◌, List, ◌==◌, nat_lt, Ok}
use Rattle.std.specs.Prelude.{refl}
use Rattle.std.proofs.Common.{sym, ap, subst, ◌∙◌, inl, inr, arith, mul-suc, suc-mul, mul-add, mul_comm, mul-le-mul, ltb-true, ltb-false, lt-ltb, le-ltb, eqb-true, eq-eqb, ne_eqb}
use Rattle.std.proofs.lemmas.Bool.{eqb-false, not-true}
use Rattle.base.specs.Limits.{message_size}
use Rattle.base.specs.Shape.Laws.{and_left, and_right, value_range, range_value}
use Rattle.message.specs.declared.Kind.{Kind}
use Rattle.message.specs.declared.Kind.TheVariants.{Cpa, Request, Estimate, Solution, Stop}
use Rattle.message.specs.declared.Message.{Message}
use Rattle.message.specs.Message.{kind_code, is_unit, direction_good, address_good, well_formed}
use Rattle.message.specs.Decode.{parse_for}
use Rattle.message.specs.Laws.{formed}
use Rattle.message.specs.RoundTrip.{parsed_good, parsed_message}
use Rattle.slots.specs.Slot.{slot_cells, slot_pool_size, may_carry, used_slots, triangle, kind_start, place_in_kind, slot_number}

-- ---- the pairs of m units

products_next : (m : ℕ) → suc (suc m) * (suc (suc m) - 1) ≡ suc m * (suc m - 1) + 2 * suc m
products_next m =
    let e : suc (suc m) - 1 ≡ suc m = omega arith in
    let f : suc m - 1 ≡ m = omega arith in
    rw (e, f) (omega (arith, suc-mul (suc m) (suc m), mul-suc (suc m) m))

pub twice-triangle : (m : ℕ) → 2 * triangle m ≡ m * (m - 1)
unfolding triangle
twice-triangle zero = refl
twice-triangle (suc zero) = refl
twice-triangle (suc (suc m)) = omega (arith, twice-triangle (suc m), products_next m)

pub triangle-next : (m : ℕ) → triangle (suc m) ≡ triangle m + m
triangle-next zero = omega (arith, twice-triangle 0, twice-triangle 1)
triangle-next (suc m) = omega (arith, twice-triangle (suc m), twice-triangle (suc (suc m)), products_next m)

pub triangle_mono : (a b : ℕ) → a ≤ b → triangle a ≤ triangle b
triangle_mono a zero h = let e : a ≡ 0 = omega arith in rw e (omega arith)
triangle_mono a (suc b) h = go (nat_lt b a) refl (λ z. triangle_mono a b z)
  where
    go : (t : Bool) → nat_lt b a ≡ t → (a ≤ b → triangle a ≤ triangle b) → triangle a ≤ triangle (suc b)
    go true q ih = let e : a ≡ suc b = omega (arith, ltb-true b a q) in rw e (omega arith)
    go false q ih = omega (arith, ih (ltb-false b a q), triangle-next b)

-- the row of a number below a triangle: row i has i numbers
triangle-row : (n x : ℕ) → x < triangle n → (i : ℕ) × (i < n) × (triangle i ≤ x) × (x < triangle i + i)
triangle-row zero x h = absurd (omega (arith, twice-triangle 0))
triangle-row (suc n) x h = go (nat_lt x (triangle n)) refl (λ z. triangle-row n x z)
  where
    go : (t : Bool) → nat_lt x (triangle n) ≡ t → (x < triangle n → (i : ℕ) × (i < n) × (triangle i ≤ x) × (x < triangle i + i)) → (i : ℕ) × (i < suc n) × (triangle i ≤ x) × (x < triangle i + i)
    go true q ih = let r = ih (ltb-true x (triangle n) q) in (r.0, omega (arith, r.1), r.2, r.3)
    go false q ih = (n, omega arith, ltb-false x (triangle n) q, omega (arith, h, triangle-next n))

-- ---- what the tests say

-- two of n units, and n as a byte says it
pub record Units (n s r : ℕ) : Type 0 where
  pub from : 1 ≤ s
  pub from_most : s ≤ n
  pub to : 1 ≤ r
  pub to_most : r ≤ n
  pub most : n ≤ 255

-- the cell of a kind from one unit to another
abbrev pub slot_if_allowed : ℕ → Kind → ℕ → ℕ → ℕ
slot_if_allowed n k s r = cond (direction_good n k s r) (slot_number n k s r) slot_cells

-- who sends to whom
abbrev Directed : ℕ → Kind → ℕ → ℕ → Type 0
Directed n Cpa s r = (r ≡ s + 1) ⊎ (s ≡ r + 1)
Directed n Request s r = s < r
Directed n Estimate s r = r < s
Directed n Solution s r = (s ≡ n) × (r ≢ s)
Directed n Stop s r = (s ≡ 1) × (r ≢ s)

or_cases : (a b : Bool) → (a || b) ≡ true → (a ≡ true) ⊎ (b ≡ true)
or_cases true b e = inl refl
or_cases false b e = inr e

directed : (n : ℕ) (k : Kind) (s r : ℕ) → direction_good n k s r ≡ true → Directed n k s r
directed n Cpa s r e = go (or_cases (r == s + 1) (s == r + 1) e)
  where
    go : ((r == s + 1) ≡ true) ⊎ ((s == r + 1) ≡ true) → (r ≡ s + 1) ⊎ (s ≡ r + 1)
    go (inl q) = inl (eqb-true r (s + 1) q)
    go (inr q) = inr (eqb-true s (r + 1) q)
directed n Request s r e = ltb-true s r e
directed n Estimate s r e = ltb-true r s e
directed n Solution s r e = (eqb-true s n (and_left _ _ e), eqb-false r s (not-true _ (and_right (s == n) _ e)))
directed n Stop s r e = (eqb-true s 1 (and_left _ _ e), eqb-false r s (not-true _ (and_right (s == 1) _ e)))

record Allowed (n : ℕ) (k : Kind) (s r : ℕ) : Type 0 where
  from : 1 ≤ s
  from_most : s ≤ n
  to : 1 ≤ r
  to_most : r ≤ n
  way : Directed n k s r

allowed : (n : ℕ) (k : Kind) (s r : ℕ) → may_carry n k s r ≡ true → Allowed n k s r
allowed n k s r e =
    let u = and_left (is_unit n s && is_unit n r) (direction_good n k s r) e in
    let f = value_range n s (and_left _ _ u) in
    let g = value_range n r (and_right (is_unit n s) _ u) in
    record { from = f.0; from_most = f.1; to = g.0; to_most = g.1; way = directed n k s r (and_right (is_unit n s && is_unit n r) _ e) }

allows : (n : ℕ) (k : Kind) (s r : ℕ) → 1 ≤ s → s ≤ n → 1 ≤ r → r ≤ n → direction_good n k s r ≡ true → may_carry n k s r ≡ true
allows n k s r a b c d e = rw (range_value n s a b, range_value n r c d, e)

-- a message that passes checks 10 and 9 is allowed
pub fields_allowed : (n : ℕ) (sizes : List ℕ) (k : Kind) (m : Message) → address_good n m ≡ true → well_formed n sizes k m ≡ true → may_carry n k m.sender m.receiver ≡ true
unfolding address_good
fields_allowed n sizes k m a f = rw (a, (formed n sizes k m f).direction)

-- so one that reads is
pub read_allowed : (n : ℕ) (sizes : List ℕ) (own : ℕ) (l : List ℕ) (k : Kind) (m : Message) → parse_for n sizes own l ≡ Ok (k, m) → may_carry n k m.sender m.receiver ≡ true
read_allowed n sizes own l k m e =
    let p = parsed_good n sizes own l k m e in
    ap (λ (x : Message). may_carry n k x.sender x.receiver) (parsed_message n sizes own l k m e) ∙ fields_allowed n sizes k _ p.address p.formed

-- ---- each cell lies in its kind's part

-- how many a kind has
abbrev part_size : ℕ → Kind → ℕ
part_size n Cpa = 2 * (n - 1)
part_size n Request = triangle n
part_size n Estimate = triangle n
part_size n Solution = n - 1
part_size n Stop = n - 1

-- a CPA's: twice the place, and 5, is 3 × sender + receiver
cpa-place : (s r : ℕ) → 1 ≤ s → 1 ≤ r → (r ≡ s + 1) ⊎ (s ≡ r + 1) → (2 * (s + r - cond (nat_lt s r) 3 2) + 5 ≡ 3 * s + r) × (r ≤ s + 1) × (s ≤ r + 1) × (r ≢ s)
cpa-place s r a b (inl e) = (rw (lt-ltb s r (omega (arith, e))) (omega (arith, e)), omega (arith, e), omega (arith, e), λ z. absurd (omega (arith, e, z)))
cpa-place s r a b (inr e) = (rw (le-ltb s r (omega (arith, e))) (omega (arith, e)), omega (arith, e), omega (arith, e), λ z. absurd (omega (arith, e, z)))

-- the later units of s, and those of the senders from s on
later_next : (n s : ℕ) → s ≤ n → triangle (n + 1 - s) ≡ triangle (n - s) + (n - s)
later_next n s h = let e : n + 1 - s ≡ suc (n - s) = omega arith in ap triangle e ∙ triangle-next (n - s)

-- the earlier units of s, and those of the senders up to s
earlier-next : (s : ℕ) → 1 ≤ s → triangle s ≡ triangle (s - 1) + (s - 1)
earlier-next s h = let e : s ≡ suc (s - 1) = omega arith in ap triangle e ∙ triangle-next (s - 1)

in_part : (n : ℕ) (k : Kind) (s r : ℕ) → Allowed n k s r → place_in_kind n k s r < part_size n k
in_part n Cpa s r h = let q = cpa-place s r h.from h.to h.way in omega (arith, q.0, q.1, q.2, q.3, h.from_most, h.to_most)
in_part n Request s r h = omega (arith, h.way, h.from_most, h.to_most, later_next n s h.from_most, triangle_mono (n + 1 - s) n (omega (arith, h.from)))
in_part n Estimate s r h = omega (arith, h.way, h.to, earlier-next s h.from, triangle_mono s n h.from_most)
in_part n Solution s r h = omega (arith, h.way.0, h.way.1, h.to, h.to_most)
in_part n Stop s r h = omega (arith, h.way.0, h.way.1, h.to, h.to_most)

-- the parts one after the other, and all of them
starts : (n : ℕ) (k : Kind)
    → (1 < kind_code k → 2 * (n - 1) ≤ kind_start n k) × (2 < kind_code k → 2 * (n - 1) + triangle n ≤ kind_start n k) × (3 < kind_code k → 2 * (n - 1) + 2 * triangle n ≤ kind_start n k)
    × (4 < kind_code k → 3 * (n - 1) + 2 * triangle n ≤ kind_start n k) × (kind_code k ≤ 5)
starts n Cpa = (λ h. omega arith, λ h. omega arith, λ h. omega arith, λ h. omega arith, omega arith)
starts n Request = (λ h. omega arith, λ h. omega arith, λ h. omega arith, λ h. omega arith, omega arith)
starts n Estimate = (λ h. omega arith, λ h. omega arith, λ h. omega arith, λ h. omega arith, omega arith)
starts n Solution = (λ h. omega arith, λ h. omega arith, λ h. omega arith, λ h. omega arith, omega arith)
starts n Stop = (λ h. omega arith, λ h. omega arith, λ h. omega arith, λ h. omega arith, omega arith)

parts_in_order : (n : ℕ) (k l : Kind) → kind_code k < kind_code l → kind_start n k + part_size n k ≤ kind_start n l
parts_in_order n Cpa l h = omega (arith, (starts n l).0 h)
parts_in_order n Request l h = (starts n l).1 h
parts_in_order n Estimate l h = omega (arith, (starts n l).2 h)
parts_in_order n Solution l h = omega (arith, (starts n l).3 h)
parts_in_order n Stop l h = absurd (omega (arith, (starts n l).4))

last-part : (n : ℕ) (k : Kind) → kind_start n k + part_size n k ≤ 4 * (n - 1) + 2 * triangle n
last-part n Cpa = omega arith
last-part n Request = omega arith
last-part n Estimate = omega arith
last-part n Solution = omega arith
last-part n Stop = omega arith

all_parts : (n : ℕ) → 1 ≤ n → 4 * (n - 1) + 2 * triangle n ≡ used_slots n
all_parts zero h = absurd (omega arith)
all_parts (suc m) h =
    let e : suc m - 1 ≡ m = omega arith in
    let t : 2 * triangle (suc m) ≡ suc m * m = twice-triangle (suc m) ∙ ap (λ (x : ℕ). suc m * x) e in
    rw e (omega (arith, t, mul_comm (suc m) m, mul-add m (suc m) 4))

pub slot_used : (n : ℕ) (k : Kind) (s r : ℕ) → may_carry n k s r ≡ true → slot_number n k s r < used_slots n
unfolding slot_number
slot_used n k s r h =
    let a = allowed n k s r h in
    omega (arith, in_part n k s r a, last-part n k, all_parts n (omega (arith, a.from, a.from_most)))

-- ---- the order

-- 02: "ordered by kind, sender, receiver"
abbrev pub Before : Kind → ℕ → ℕ → Kind → ℕ → ℕ → Type 0
Before k s r k' s' r' = (kind_code k < kind_code k') ⊎ ((k ≡ k') × ((s < s') ⊎ ((s ≡ s') × (r < r'))))

-- the places of a row all come before the next rows'
rows_before : (t a b c m p q : ℕ) → a ≤ t → a ≡ c + m → b ≤ c → p < m → t - a + p < t - b + q
rows_before t a b c m p q h e l o = omega arith

in_kind : (n : ℕ) (k : Kind) (s r s' r' : ℕ) → Allowed n k s r → Allowed n k s' r' → (s < s') ⊎ ((s ≡ s') × (r < r')) → place_in_kind n k s r < place_in_kind n k s' r'
in_kind n Cpa s r s' r' a b (inl e) =
    let p = cpa-place s r a.from a.to a.way in
    let q = cpa-place s' r' b.from b.to b.way in
    omega (arith, p.0, p.1, p.2, q.0, q.1, q.2, e)
in_kind n Cpa s r s' r' a b (inr e) =
    let p = cpa-place s r a.from a.to a.way in
    let q = cpa-place s' r' b.from b.to b.way in
    omega (arith, p.0, p.1, p.2, q.0, q.1, q.2, e.0, e.1)
in_kind n Request s r s' r' a b (inl e) =
    rows_before (triangle n) (triangle (n + 1 - s)) (triangle (n + 1 - s')) (triangle (n - s)) (n - s) (r - s - 1) (r' - s' - 1) (triangle_mono (n + 1 - s) n (omega (arith, a.from)))
    (later_next n s a.from_most) (triangle_mono (n + 1 - s') (n - s) (omega (arith, e))) (omega (arith, a.way, a.to_most))
in_kind n Request s r s' r' a b (inr e) = omega (arith, ap (λ (x : ℕ). triangle (n + 1 - x)) e.0, e.0, e.1, a.way, b.way)
in_kind n Estimate s r s' r' a b (inl e) = omega (arith, a.way, a.to, earlier-next s a.from, triangle_mono s (s' - 1) (omega (arith, e)))
in_kind n Estimate s r s' r' a b (inr e) = omega (arith, ap (λ (x : ℕ). triangle (x - 1)) e.0, e.1, a.to)
in_kind n Solution s r s' r' a b (inl e) = absurd (omega (arith, a.way.0, b.way.0, e))
in_kind n Solution s r s' r' a b (inr e) = omega (arith, e.1, a.to)
in_kind n Stop s r s' r' a b (inl e) = absurd (omega (arith, a.way.0, b.way.0, e))
in_kind n Stop s r s' r' a b (inr e) = omega (arith, e.1, a.to, a.way.0, a.way.1)

pub slot_order : (n : ℕ) (k k' : Kind) (s r s' r' : ℕ) → may_carry n k s r ≡ true → may_carry n k' s' r' ≡ true → Before k s r k' s' r' → slot_number n k s r < slot_number n k' s' r'
unfolding slot_number
slot_order n k k' s r s' r' h h' (inl e) = omega (arith, in_part n k s r (allowed n k s r h), parts_in_order n k k' e)
slot_order n k k' s r s' r' h h' (inr e) =
    let b : Allowed n k s' r' = subst (λ (l : Kind). Allowed n l s' r') (sym e.0) (allowed n k' s' r' h') in
    let q = in_kind n k s r s' r' (allowed n k s r h) b e.1 in
    subst (λ (l : Kind). kind_start n k + place_in_kind n k s r < kind_start n l + place_in_kind n l s' r') e.0 (omega (arith, q))

-- ---- no two share a cell

order : (a b : ℕ) → (a < b) ⊎ ((a ≡ b) ⊎ (b < a))
order a b = go (nat_lt a b) (nat_lt b a) refl refl
  where
    go : (t t' : Bool) → nat_lt a b ≡ t → nat_lt b a ≡ t' → (a < b) ⊎ ((a ≡ b) ⊎ (b < a))
    go true t' q q' = inl (ltb-true a b q)
    go false true q q' = inr (inr (ltb-true b a q'))
    go false false q q' = inr (inl (omega (arith, ltb-false a b q, ltb-false b a q')))

-- a kind by its number
kind_at : ℕ → Kind
kind_at zero = Cpa
kind_at (suc zero) = Cpa
kind_at (suc (suc zero)) = Request
kind_at (suc (suc (suc zero))) = Estimate
kind_at (suc (suc (suc (suc zero)))) = Solution
kind_at (suc (suc (suc (suc (suc c))))) = Stop

kind_at_lem : (k : Kind) → kind_at (kind_code k) ≡ k
unfolding kind_at
kind_at_lem Cpa = refl
kind_at_lem Request = refl
kind_at_lem Estimate = refl
kind_at_lem Solution = refl
kind_at_lem Stop = refl

pub kind_by_code : (k l : Kind) → kind_code k ≡ kind_code l → k ≡ l
kind_by_code k l e = sym (kind_at_lem k) ∙ ap kind_at e ∙ kind_at_lem l

pub slot_apart : (n : ℕ) (k k' : Kind) (s r s' r' : ℕ) → may_carry n k s r ≡ true → may_carry n k' s' r' ≡ true → slot_number n k s r ≡ slot_number n k' s' r'
    → (k ≡ k') × (s ≡ s') × (r ≡ r')
slot_apart n k k' s r s' r' h h' e = kinds (order (kind_code k) (kind_code k'))
  where
    before : Before k s r k' s' r' → (k ≡ k') × (s ≡ s') × (r ≡ r')
    before q = absurd (omega (arith, slot_order n k k' s r s' r' h h' q, e))

    behind : Before k' s' r' k s r → (k ≡ k') × (s ≡ s') × (r ≡ r')
    behind q = absurd (omega (arith, slot_order n k' k s' r' s r h' h q, e))

    receivers : k ≡ k' → s ≡ s' → (r < r') ⊎ ((r ≡ r') ⊎ (r' < r)) → (k ≡ k') × (s ≡ s') × (r ≡ r')
    receivers a b (inl q) = before (inr (a, inr (b, q)))
    receivers a b (inr (inl q)) = (a, b, q)
    receivers a b (inr (inr q)) = behind (inr (sym a, inr (sym b, q)))

    senders : k ≡ k' → (s < s') ⊎ ((s ≡ s') ⊎ (s' < s)) → (k ≡ k') × (s ≡ s') × (r ≡ r')
    senders a (inl q) = before (inr (a, inl q))
    senders a (inr (inl q)) = receivers a q (order r r')
    senders a (inr (inr q)) = behind (inr (sym a, inl q))

    kinds : (kind_code k < kind_code k') ⊎ ((kind_code k ≡ kind_code k') ⊎ (kind_code k' < kind_code k)) → (k ≡ k') × (s ≡ s') × (r ≡ r')
    kinds (inl q) = before (inl q)
    kinds (inr (inl q)) = senders (kind_by_code k k' q) (order s s')
    kinds (inr (inr q)) = behind (inl q)

-- ---- each cell that is used is a triple's

abbrev pub IsSlot : ℕ → ℕ → Type 0
IsSlot n c = (k : Kind) × (s : ℕ) × (r : ℕ) × (may_carry n k s r ≡ true) × (slot_number n k s r ≡ c)

-- even: going down; odd: going back
cpa_at : (n c : ℕ) → c < 2 * (n - 1) → (t : Bool) → (2 * (c / 2) == c) ≡ t → IsSlot n c
unfolding slot_number
cpa_at n c h true q = down (c / 2 + 1) (omega (arith, eqb-true (2 * (c / 2)) c q))
  where
    down : (s : ℕ) → 2 * s ≡ c + 2 → IsSlot n c
    down s e =
        let p : 0 + (s + (s + 1) - cond (nat_lt s (s + 1)) 3 2) ≡ c = omega (arith, (cpa-place s (s + 1) (omega arith) (omega arith) (inl refl)).0) in
        (Cpa, s, s + 1, allows n Cpa s (s + 1) (omega arith) (omega arith) (omega arith) (omega arith) (rw (eq-eqb (s + 1) (s + 1) refl)), p)
cpa_at n c h false q = back (c / 2 + 1) (omega (arith, eqb-false (2 * (c / 2)) c q))
  where
    or_true : (a : Bool) → (a || true) ≡ true
    or_true true = refl
    or_true false = refl

    back : (r : ℕ) → 2 * r ≡ c + 1 → IsSlot n c
    back r e =
        let p : 0 + (r + 1 + r - cond (nat_lt (r + 1) r) 3 2) ≡ c = omega (arith, (cpa-place (r + 1) r (omega arith) (omega arith) (inr refl)).0) in
        (Cpa, r + 1, r, allows n Cpa (r + 1) r (omega arith) (omega arith) (omega arith) (omega arith) (rw (eq-eqb (r + 1) (r + 1) refl) (or_true (r == r + 1 + 1))), p)

-- x places behind where its kind starts; a request's row is counted from the last sender, whose row has none
row_from_last : (t x a c i : ℕ) → x < t → c ≤ t - 1 - x → t - 1 - x < c + i → a ≡ c + i → (t - a ≤ x) × (x - (t - a) < i)
row_from_last t x a c i h l m e = (omega arith, omega arith)

request_in : (n x s d : ℕ) → 1 ≤ s → s + 1 + d ≤ n → (triangle n - triangle (n + 1 - s)) + d ≡ x → IsSlot n (kind_start n Request + x)
unfolding slot_number
request_in n x s d a b e =
    let q : s + 1 + d - s - 1 ≡ d = omega arith in
    let p : (triangle n - triangle (n + 1 - s)) + (s + 1 + d - s - 1) ≡ x = ap (λ (y : ℕ). (triangle n - triangle (n + 1 - s)) + y) q ∙ e in
    (Request, s, s + 1 + d, allows n Request s (s + 1 + d) a (omega arith) (omega arith) b (lt-ltb s (s + 1 + d) (omega arith)), ap (λ (y : ℕ). kind_start n Request + y) p)

request_at : (n x : ℕ) → x < triangle n → IsSlot n (kind_start n Request + x)
request_at n x h = let w = triangle-row n (triangle n - 1 - x) (omega arith) in go w.0 w.1 w.2 w.3
  where
    go : (i : ℕ) → i < n → triangle i ≤ triangle n - 1 - x → triangle n - 1 - x < triangle i + i → IsSlot n (kind_start n Request + x)
    go i l a b =
        let e : n + 1 - (n - i) ≡ suc i = omega arith in
        let f = row_from_last (triangle n) x (triangle (n + 1 - (n - i))) (triangle i) i h a b (ap triangle e ∙ triangle-next i) in
        request_in n x (n - i) (x - (triangle n - triangle (n + 1 - (n - i)))) (omega arith) (omega (arith, f.1)) (omega (arith, f.0))

estimate_at : (n x : ℕ) → x < triangle n → IsSlot n (kind_start n Estimate + x)
unfolding slot_number
estimate_at n x h =
    let w = triangle-row n x h in
    let i = w.0 in
    let r = x - triangle i + 1 in
    let e : suc i - 1 ≡ i = omega arith in
    let p : kind_start n Estimate + (triangle (suc i - 1) + (r - 1)) ≡ kind_start n Estimate + x = rw e (omega (arith, w.2)) in
    (Estimate, suc i, r, allows n Estimate (suc i) r (omega arith) w.1 (omega arith) (omega (arith, w.1, w.2, w.3)) (lt-ltb r (suc i) (omega (arith, w.2, w.3))), p)

solution_at : (n x : ℕ) → x < n - 1 → IsSlot n (kind_start n Solution + x)
unfolding slot_number
solution_at n x h =
    let p : kind_start n Solution + (x + 1 - 1) ≡ kind_start n Solution + x = omega arith in
    (Solution, n, x + 1, allows n Solution n (x + 1) (omega arith) (omega arith) (omega arith) (omega arith) (rw (eq-eqb n n refl, ne_eqb (x + 1) n (λ z. omega arith))), p)

stop_at : (n x : ℕ) → x < n - 1 → IsSlot n (kind_start n Stop + x)
unfolding slot_number
stop_at n x h =
    let p : kind_start n Stop + (x + 2 - 2) ≡ kind_start n Stop + x = omega arith in
    (Stop, 1, x + 2, allows n Stop 1 (x + 2) (omega arith) (omega arith) (omega arith) (omega arith) (rw (ne_eqb (x + 2) 1 (λ z. omega arith))), p)

pub slot_each : (n : ℕ) → 1 ≤ n → (c : ℕ) → c < used_slots n → IsSlot n c
slot_each n h c l = go (nat_lt c (kind_start n Request)) (nat_lt c (kind_start n Estimate)) (nat_lt c (kind_start n Solution)) (nat_lt c (kind_start n Stop)) refl refl refl refl
  where
    past : (k : Kind) → kind_start n k ≤ c → IsSlot n (kind_start n k + (c - kind_start n k)) → IsSlot n c
    past k le = let e : kind_start n k + (c - kind_start n k) ≡ c = omega arith in subst (IsSlot n) e

    go : (t t' t'' t''' : Bool) → nat_lt c (kind_start n Request) ≡ t → nat_lt c (kind_start n Estimate) ≡ t' → nat_lt c (kind_start n Solution) ≡ t'' → nat_lt c (kind_start n Stop) ≡ t''' → IsSlot n c
    go true t' t'' t''' a b d e = cpa_at n c (ltb-true c (kind_start n Request) a) (2 * (c / 2) == c) refl
    go false true t'' t''' a b d e = past Request (ltb-false c (kind_start n Request) a) (request_at n (c - kind_start n Request) (omega (arith, ltb-false c (kind_start n Request) a, ltb-true c (kind_start n Estimate) b)))
    go false false true t''' a b d e = past Estimate (ltb-false c (kind_start n Estimate) b) (estimate_at n (c - kind_start n Estimate) (omega (arith, ltb-false c (kind_start n Estimate) b, ltb-true c (kind_start n Solution) d)))
    go false false false true a b d e = past Solution (ltb-false c (kind_start n Solution) d) (solution_at n (c - kind_start n Solution) (omega (arith, ltb-false c (kind_start n Solution) d, ltb-true c (kind_start n Stop) e)))
    go false false false false a b d e = past Stop (ltb-false c (kind_start n Stop) e) (stop_at n (c - kind_start n Stop) (omega (arith, ltb-false c (kind_start n Stop) e, l, all_parts n h)))

-- 02: "300 cells for 16 units", "The pool is 19,200 bytes"
pub three_hundred : used_slots 16 ≡ slot_cells
three_hundred = refl

-- as many as up to 16 units use
pub used_fits : (n : ℕ) → n ≤ 16 → used_slots n ≤ slot_cells
used_fits n h =
    let a : n - 1 ≤ 15 = omega arith in
    let b : n + 4 ≤ 20 = omega arith in
    omega (arith, mul-le-mul a b)

pub slot_bytes_lem : slot_cells * message_size ≡ slot_pool_size
slot_bytes_lem = refl
