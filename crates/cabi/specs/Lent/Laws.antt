-- Laws of what C lends: a byte that is no flag makes its state one out of range, for whatever table and unit, and what a call leaves as it
-- was comes back as lent, that byte too (of all units in proofs/ComesBack.antt).
-- Assumes nothing.
use Rattle.std.specs.Prelude.{ℕ, zero, suc, ◌+◌, ◌<◌, ◌≤◌, ◌≡◌, refl, Bool, true, false, cond, List, [], ◌∷◌, ◌++◌, leb, eqb, length, get_or, set, drop}
use Rattle.std.proofs.Common.{sym, ◌∙◌, append_assoc, append-nil, arith, add-one, leb-true, eqb-true, length-append, drop_of_length-le, drop-cons, ext_get_or}
use Rattle.std.proofs.lemmas.Bool.{eqb-false}
use Rattle.std.proofs.Math.ListN.{get_or-append}
use Rattle.std.proofs.lemmas.List.{set_at, get_or_at}
use Rattle.table.specs.Stream.{units_of, Accepted}
use Rattle.table.specs.StreamLaws.{accepted_units}
use Rattle.costs.specs.declared.ValueOrder.{ValueOrder}
use Rattle.costs.specs.Instance.{View, view_by, instance_of}
use Rattle.costs.specs.Gather.{sizes_in}
use Rattle.base.specs.Every.Laws.{every_not}
use Rattle.rules.specs.State.{empty_unit, all_at_most, paid_in_range, in_range}
use Rattle.runs.specs.Calls.{core_refusal}
use Rattle.runs.specs.Code.{unit_in_range}
use Rattle.runs.proofs.CodeLaws.{core_states}
use Rattle.cabi.specs.declared.LentUnit.{LentUnit}
use Rattle.cabi.specs.declared.LentCore.{LentCore}
use Rattle.cabi.specs.Lent.{flag_good, unit_from, unit_back, empty_lent, up_to, units_from, core_from}

-- ---- one unit

-- the state is out of range, 5
pub no_flag_out_of_range : (sizes : List ℕ) (w : View) (s : LentUnit) → flag_good s ≡ false → in_range sizes w (unit_from s) ≡ false
unfolding in_range paid_in_range all_at_most unit_from
no_flag_out_of_range sizes w s e = rw e

flag_back : (b : ℕ) → leb b 1 ≡ true → cond (eqb b 1) 1 0 ≡ b
flag_back zero e = refl
flag_back (suc zero) e = refl
flag_back (suc (suc b)) e = absurd (omega (arith, leb-true (suc (suc b)) 1 e))

-- a state that no call changes comes back as it was lent, whatever the byte
pub comes_back : (s : LentUnit) → unit_back s (unit_from s) ≡ s
unfolding unit_back unit_from
comes_back s = go (flag_good s) refl
  where
    go : (t : Bool) → flag_good s ≡ t → unit_back s (unit_from s) ≡ s
    go true e = rw (e, flag_back s.stopped e)
    go false e = rw e

-- ---- sixteen units

pub length_up_to : {A : Type 0} (k : ℕ) (f : ℕ → A) → length (up_to k f) ≡ k
unfolding up_to
length_up_to zero f = refl
length_up_to (suc k) f = length-append (up_to k f) (f k ∷ []) ∙ rw (length_up_to k f) (add-one k)

pub up_to_next : {A : Type 0} (f : ℕ → A) (l : List A) (i : ℕ) (d : A) → i < length l → set (up_to i f ++ drop i l) i (f i) ≡ up_to (i + 1) f ++ drop (i + 1) l
unfolding up_to
up_to_next f l i d h =
    rw (drop-cons l i d h, set_at (up_to i f) (get_or l i d) (drop (suc i) l) (f i) i (length_up_to i f), add-one) (sym (append_assoc (up_to i f) (f i ∷ []) (drop (suc i) l)))

pub up_to_done : {A : Type 0} (f : ℕ → A) (l : List A) (i : ℕ) → length l ≡ i → up_to i f ++ drop i l ≡ up_to i f
up_to_done f l i e = let h : length l ≤ i = omega (arith, e) in rw (drop_of_length-le l h, append-nil)

pub up_to_at : {A : Type 0} (n : ℕ) (f : ℕ → A) (k : ℕ) (d : A) → k < n → get_or (up_to n f) k d ≡ f k
unfolding up_to
up_to_at zero f k d h = absurd (omega arith)
up_to_at (suc n) f k d h = go (eqb k n) refl (λ q. up_to_at n f k d q)
  where
    go : (t : Bool) → eqb k n ≡ t → (k < n → get_or (up_to n f) k d ≡ f k) → get_or (up_to n f ++ f n ∷ []) k d ≡ f k
    go true e below = rw (eqb-true k n e) (get_or_at (up_to n f) (f n) [] d n (length_up_to n f))
    go false e below =
        let q : k ≡ n → ⊥ = eqb-false k n e in
        let l : k < length (up_to n f) = rw (length_up_to n f) (omega arith) in
        get_or-append (up_to n f) (f n ∷ []) d k l ∙ below (omega arith)

-- a list with f k at each place k below n
pub up_to_of : {A : Type 0} (n : ℕ) (f : ℕ → A) (l : List A) (d : A) → length l ≡ n → ((k : ℕ) → k < n → get_or l k d ≡ f k) → l ≡ up_to n f
up_to_of n f l d e h =
    let long : length (up_to n f) ≡ n = length_up_to n f in
    ext_get_or d l (up_to n f) (e ∙ sym long) (λ k p. let q : k < n = omega (arith, e, p) in h k q ∙ sym (up_to_at n f k d q))

-- units and counts with such a byte in one of the n units are refused by 5, whatever pool is lent beside them
pub no_flag_network : (order : ValueOrder) (stream : List ℕ) (s : LentCore) (k : ℕ) → Accepted stream → k < units_of stream → flag_good (get_or s.units k empty_lent) ≡ false → core_refusal order (core_from s) stream ≡ 5
unfolding Accepted
no_flag_network order stream s k ok h e =
    let few = accepted_units stream ok in
    let at = up_to_at 16 (λ (i : ℕ). unit_from (get_or s.units i empty_lent)) k empty_unit (omega (arith, few.1)) in
    let out : unit_in_range order stream (units_from s.units) k ≡ false = rw at (no_flag_out_of_range (sizes_in stream) (view_by order (instance_of stream) k) (get_or s.units k empty_lent) e) in
    sym (core_states order (core_from s) stream ok (every_not (unit_in_range order stream (units_from s.units)) (units_of stream) k h out))
