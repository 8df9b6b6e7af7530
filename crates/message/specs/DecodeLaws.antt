-- Laws of reading and writing: what each check, in 01's order, makes of the answer, where those before it held.
-- By the definitions, test by test. Assumes nothing.
use Rattle.std.specs.Prelude.{ℕ, ◌+◌, ◌<◌, ◌≡◌, refl, Bool, true, false, ◌&&◌, List, leb, eqb, length, get_or, Result, Ok, Err}
use Rattle.std.proofs.Math.Path.{sym}
use Rattle.std.proofs.Common.{◌∙◌, arith}
use borrow.Author.Tests.{eqb-true, ne_eqb}
use Rattle.base.specs.declared.Refusal.{Refusal}
use Rattle.base.specs.declared.Refusal.TheVariants.{OutOfRange, Damaged, BadField, BadUnit}
use Rattle.base.specs.Limits.{message_size}
use Rattle.base.specs.Put.{put_at}
use Rattle.base.specs.Shape.{shape_good}
use Rattle.base.specs.Shape.Laws.{and_left}
use Rattle.message.specs.declared.Kind.{Kind}
use Rattle.message.specs.declared.Message.{Message}
use Rattle.message.specs.Message.{kind_of, address_good, well_formed}
use Rattle.message.specs.Decode.{put_refusal, put_into, message_in, check_good, rest_zero, parse_kind, parse_for, write_refusal, packet_into}
use Rattle.message.specs.Written.{encode}

-- check 10
abbrev pub addressed_to : ℕ → ℕ → Message → Bool
addressed_to n own m = address_good n m && eqb m.receiver own

-- ------------------------------------------------------------------------------------------------------------------
-- Reading.

pub check_length : (s : List ℕ) → check_good s ≡ true → length s ≡ message_size
unfolding check_good
check_length s e = eqb-true (length s) message_size (and_left _ _ e)

-- the way out of reading at each check, where those before it held
module _ (n : ℕ) (sizes : List ℕ) (own : ℕ) (s : List ℕ) where
  pub parse_5 : shape_good n sizes ≡ false → parse_for n sizes own s ≡ Err OutOfRange
  unfolding parse_for
  parse_5 a = rw a

  pub parse_8 : shape_good n sizes ≡ true → check_good s ≡ false → parse_for n sizes own s ≡ Err Damaged
  unfolding parse_for
  parse_8 a b = rw (a, b)

  pub parse_10 : shape_good n sizes ≡ true → check_good s ≡ true → addressed_to n own (message_in s) ≡ false → parse_for n sizes own s ≡ Err BadUnit
  unfolding parse_for
  parse_10 a b d = rw (a, b, d)

  pub parse_on : shape_good n sizes ≡ true → check_good s ≡ true → addressed_to n own (message_in s) ≡ true
      → parse_for n sizes own s ≡ parse_kind n sizes s (message_in s) (kind_of (get_or s 0 0))
  unfolding parse_for
  parse_on a b d = rw (a, b, d)

-- the same for check 9, by the kind that byte 0 gives
module _ (n : ℕ) (sizes s : List ℕ) (m : Message) (a : Result Kind Refusal) where
  pub kind_refused : (r : Refusal) → a ≡ Err r → parse_kind n sizes s m a ≡ Err r
  unfolding parse_kind
  kind_refused r e = rw e

  pub kind_rest : (k : Kind) → a ≡ Ok k → rest_zero s ≡ false → parse_kind n sizes s m a ≡ Err BadField
  unfolding parse_kind
  kind_rest k e z = rw (e, z)

  pub kind_unfit : (k : Kind) → a ≡ Ok k → rest_zero s ≡ true → well_formed n sizes k m ≡ false → parse_kind n sizes s m a ≡ Err BadField
  unfolding parse_kind
  kind_unfit k e z w = rw (e, z, w)

  pub kind_good : (k : Kind) → a ≡ Ok k → rest_zero s ≡ true → well_formed n sizes k m ≡ true → parse_kind n sizes s m a ≡ Ok (k, m)
  unfolding parse_kind
  kind_good k e z w = rw (e, z, w)

-- ------------------------------------------------------------------------------------------------------------------
-- Writing.

-- a refusal is what the call gives, and the output stays
module _ (n : ℕ) (sizes : List ℕ) (k : Kind) (m : Message) (out : List ℕ) where
  pub write_stops : (r : ℕ) → write_refusal n sizes k m (length out) ≡ r → 0 < r → (r ≡ write_refusal n sizes k m (length out)) × (out ≡ packet_into n sizes k m out)
  unfolding packet_into
  write_stops r e h = (sym e, sym (rw (e, ne_eqb r 0 (λ q. omega arith))))

  pub write_done : write_refusal n sizes k m (length out) ≡ 0 → packet_into n sizes k m out ≡ put_at out 0 (encode k m)
  unfolding packet_into
  write_done e = rw e

  -- past checks 5, 10 and 9 it is `put`
  module _ (a : shape_good n sizes ≡ true) (b : address_good n m ≡ true) (d : well_formed n sizes k m ≡ true) where
    pub write-last : write_refusal n sizes k m (length out) ≡ put_refusal (length out) 0
    unfolding write_refusal
    write-last = rw (a, b, d)

    pub write_puts : packet_into n sizes k m out ≡ put_into k m out 0
    unfolding put_refusal put_into
    write_puts = go (leb (0 + message_size) (length out)) refl
      where
        go : (t : Bool) → leb (0 + message_size) (length out) ≡ t → packet_into n sizes k m out ≡ put_into k m out 0
        go true e = write_done (write-last ∙ rw e) ∙ sym (rw e)
        go false e = sym (write_stops 13 (write-last ∙ rw e) (omega arith)).1 ∙ sym (rw e)
