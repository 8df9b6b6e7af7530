-- The refusals of gathering, from the tests that the code makes; and what passes them is an accepted stream, one of its units, and room for the bytes.
-- Each by taking the definition's tests apart. Assumes nothing.
use Rattle.std.specs.Prelude.{◌≡◌, ℕ, pred, ◌*◌, ◌<◌, ◌≤◌, Bool, true, false, cond, List, ◌++◌, length, drop, ◌==◌, ◌≢◌, nat_lt, refl}
use Rattle.std.proofs.Common.{sym, ap, ◌∙◌, arith, ltb-false, lt-ltb, le-ltb, eq-eqb, ne_eqb}
use Rattle.base.specs.Shape.{is_value}
use Rattle.base.specs.Shape.Laws.{value_range}
use Rattle.base.specs.Refusal.{or_else}
use Rattle.base.specs.Refusal.Laws.{or_left, or_right, or_first}
use Rattle.table.specs.Stream.{units_of, stream_refusal, Accepted}
use Rattle.table.specs.StreamLaws.{accepted_units}
use Rattle.costs.specs.declared.Seat.{Seat}
use Rattle.costs.specs.Lent.Parts.{dom_from}
use Rattle.costs.specs.Instance.{other_start}
use Rattle.costs.specs.Lent.{lent_count}
use Rattle.costs.specs.Laws.Stream.{accepted_fit, dom-most}
use Rattle.costs.specs.Gather.Steps.{SeatIn}
use Rattle.costs.specs.Gather.{sizes_in, gather_refusal, gather_of, gather_into}
use Rattle.costs.specs.Gathered.{gathered}
use Rattle.costs.specs.Gather.Sizes.{dom_same}
use Rattle.costs.specs.Gather.Laws.{gathered_length}

-- ---- each refusal by its test

module _ (s : List ℕ) (own room : ℕ) where
  pub refused_5 : stream_refusal s ≡ 5 → 5 ≡ gather_refusal s own room
  unfolding gather_refusal
  refused_5 e = rw (eq-eqb (stream_refusal s) 5 e)

  module _ (not5 : stream_refusal s ≡ 5 → ⊥) where
    pub refused_10 : is_value (units_of s) own ≡ false → 10 ≡ gather_refusal s own room
    unfolding gather_refusal
    refused_10 e = rw (ne_eqb (stream_refusal s) 5 not5, e)

    module _ (unit : is_value (units_of s) own ≡ true) where
      pub refused-stream : (stream_refusal s ≢ 0) → stream_refusal s ≡ gather_refusal s own room
      unfolding gather_refusal
      refused-stream h = rw (ne_eqb (stream_refusal s) 5 not5, unit) (sym (or_first (stream_refusal s) _ h))

      -- the stream is accepted: the room decides
      by_room : Accepted s → gather_refusal s own room ≡ cond (nat_lt room (length (gathered s own))) 13 0
      unfolding gather_refusal Accepted
      by_room ok = rw (ne_eqb (stream_refusal s) 5 not5, unit, ok)

      pub refused_13 : Accepted s → room < length (gathered s own) → 13 ≡ gather_refusal s own room
      refused_13 ok h = sym (by_room ok ∙ rw (lt-ltb room (length (gathered s own)) h))

      pub refused_none : Accepted s → length (gathered s own) ≤ room → 0 ≡ gather_refusal s own room
      refused_none ok h = sym (by_room ok ∙ rw (le-ltb room (length (gathered s own)) h))

-- ---- what passes

pub record Gatherable (s : List ℕ) (own room : ℕ) : Type 0 where
  pub accepted : Accepted s
  pub unit : (1 ≤ own) × (own ≤ units_of s)
  pub fits : length (gathered s own) ≤ room

pub gatherable : (s : List ℕ) (own room : ℕ) → gather_refusal s own room ≡ 0 → Gatherable s own room
unfolding gather_refusal Accepted
gatherable s own room e = go (stream_refusal s == 5) (is_value (units_of s) own) refl e
  where
    room_for : (t : Bool) → nat_lt room (length (gathered s own)) ≡ t → ◌≡◌ {A = ℕ} (cond t 13 0) 0 → length (gathered s own) ≤ room
    room_for true q z = absurd (omega arith)
    room_for false q z = ltb-false room (length (gathered s own)) q

    go : (a b : Bool) → is_value (units_of s) own ≡ b → ◌≡◌ {A = ℕ} (cond a 5 (cond b (or_else (stream_refusal s) (cond (nat_lt room (length (gathered s own))) 13 0)) 10)) 0 → Gatherable s own room
    go true b q z = absurd (omega arith)
    go false false q z = absurd (omega arith)
    go false true q z = record {
      accepted = or_left (stream_refusal s) _ z;
      unit = value_range (units_of s) own q;
      fits = room_for (nat_lt room (length (gathered s own))) refl (or_right (stream_refusal s) _ z);
    }

-- ---- what gathering gives

module _ (s : List ℕ) (own : ℕ) (l : List ℕ) where
  pub gather_refused : (r : ℕ) → r ≡ gather_refusal s own (length l) → (r ≢ 0) → (record { refusal = r; length = 0 } ≡ gather_of s own (length l)) × (l ≡ gather_into s own l)
  gather_refused r e h = rw (← e, ne_eqb r 0 h) (refl, refl)

  pub gather_done : gather_refusal s own (length l) ≡ 0 → (count : ℕ) (m : List ℕ) → count ≡ length (gathered s own) → m ≡ gathered s own ++ drop (length (gathered s own)) l
      → (record { refusal = 0; length = count } ≡ gather_of s own (length l)) × (m ≡ gather_into s own l)
  gather_done e count m c f = rw (eq-eqb (gather_refusal s own (length l)) 0 e, c, f) (refl, refl)

-- ---- the seat of a unit of an accepted stream

module _ (s : List ℕ) (seat : Seat) (units : seat.n ≡ units_of s) (array : seat.sizes ≡ sizes_in s) (ok : Accepted s) where
  pub seated : SeatIn s seat
  seated = record { units = units; array = array; most = omega (arith, accepted_units s ok); small = dom-most s ok; long = accepted_fit s ok }

  -- the costs that touch it are as many as the code counts
  pub gathered-count : 1 ≤ seat.own → seat.own ≤ units_of s → length (gathered s seat.own) ≡ 2 * lent_count seat.own seat.n seat.sizes
  gathered-count lo hi =
      gathered_length s ok seat.own lo hi
      ∙ ap (λ f. 2 * other_start f (pred seat.own) (units_of s)) (sym (dom_same s units array seated.most))
      ∙ ap (λ m. 2 * other_start (dom_from seat) (pred seat.own) m) (sym units)
