-- What the newer of two is, for readers: one of the two lent buffers, whole; the first on a tie; without one the same whichever comes first.
--     Pair, read_pair                              what is known of two that are not refused
--     one_of_two, whole_message, refused_neither   what is handed back
--     Tied, first_on_a_tie, either_way             which one
--     one_cell                                     two messages of one cell are never refused
-- Assumes nothing.
use Rattle.std.specs.Prelude.{◌≡◌, ℕ, zero, suc, Bool, true, false, cond, ◌&&◌, ◌⊎◌, List, [], length, ◌==◌, ◌≢◌, slice_index, Result, Ok, Err}
use Rattle.std.proofs.Math.Path.{refl, ap}
use Rattle.std.proofs.Common.{sym, ◌∙◌, inl, inr, arith, length-take, length-drop, ext_get_or}
use Rattle.std.proofs.lemmas.Bool.{false≢true}
use borrow.Author.Tests.{ltb-true, ltb-false, le-ltb, eqb-true, eq-eqb}
use Rattle.base.specs.declared.Refusal.{Refusal}
use Rattle.base.specs.declared.Refusal.TheVariants.{BadField}
use Rattle.base.specs.Limits.{places, message_size}
use Rattle.base.specs.Refusal.Laws.{number_some}
use Rattle.base.specs.Shape.Laws.{and_left, and_right}
use Rattle.message.specs.declared.Kind.{Kind}
use Rattle.message.specs.declared.Kind.TheVariants.{Cpa, Request, Estimate, Solution, Stop}
use Rattle.message.specs.declared.Message.{Message}
use Rattle.message.specs.Message.{Packet, kind_code}
use Rattle.message.specs.Decode.{message_in, parse_of}
use Rattle.message.specs.DecodeLaws.{check_length}
use Rattle.message.specs.RoundTrip.{parsed_good, parsed_message}
use Rattle.std.specs.declared.cmp.Ordering.{Ordering}
use Rattle.std.specs.declared.cmp.Ordering.TheVariants.{Less, Equal, Greater}
use Rattle.std.specs.Ordering.{is_lt, nat_cmp, ordering_reverse, ordering_then}
use Rattle.std.proofs.lemmas.Cmp.{nat_cmp_total}
use Rattle.rules.specs.State.{compare_on}
use Rattle.rules.specs.Laws.Stamps.{equal_places, places_equal}
use Rattle.slots.specs.declared.pair.Which.{Which}
use Rattle.slots.specs.declared.pair.Which.TheVariants.{First, Second}
use Rattle.slots.specs.Newer.{same_slot, second_newer, choose, choice_of, refusal_in, which_in, handed_in, newer_refusal, which_newer, newer_of}
use Rattle.slots.specs.Slot.{slot_of}
use Rattle.slots.specs.Slot.Laws.{kind_by_code, read_allowed, slot_apart}

-- ---- two stamps the other way round

compare_turned : (k : ℕ) (a b : List ℕ) → compare_on k b a ≡ ordering_reverse (compare_on k a b)
unfolding compare_on
compare_turned zero a b = refl
compare_turned (suc k) a b = rw (compare_turned k a b, nat_cmp_total.antisymm (slice_index b k) (slice_index a k)) (go (compare_on k a b) (nat_cmp (slice_index a k) (slice_index b k)))
  where
    go : (o p : Ordering) → ordering_then (ordering_reverse o) (ordering_reverse p) ≡ ordering_reverse (ordering_then o p)
    go Less p = refl
    go Equal p = refl
    go Greater p = refl

-- ---- which of two of one kind

-- neither is newer: the same stamp, or for solutions the same bound; two stops always
abbrev pub Tied : Kind → Message → Message → Type 0
Tied Cpa a b = a.stamp ≡ b.stamp
Tied Request a b = a.stamp ≡ b.stamp
Tied Estimate a b = a.stamp ≡ b.stamp
Tied Solution a b = a.bound ≡ b.bound
Tied Stop a b = Unit {0}

module _ (s t : List ℕ) where
  same_stamp : s ≡ t → is_lt (compare_on places s t) ≡ false
  same_stamp e = ap is_lt (places_equal places s t (λ j l. ap (λ (x : List ℕ). slice_index x j) e))

  not_both : is_lt (compare_on places s t) ≡ true → is_lt (compare_on places t s) ≢ true
  not_both h g = go (compare_on places s t) h (sym (ap is_lt (compare_turned places s t)) ∙ g)
    where
      go : (o : Ordering) → is_lt o ≡ true → is_lt (ordering_reverse o) ≢ true
      go Less x y = false≢true y
      go Equal x y = false≢true y
      go Greater x y = false≢true x

  neither_later : length s ≡ places → length t ≡ places → is_lt (compare_on places s t) ≡ false → is_lt (compare_on places t s) ≡ false → s ≡ t
  neither_later l m h g =
      let e = equal_places places s t (go (compare_on places s t) h (sym (ap is_lt (compare_turned places s t)) ∙ g)) in
      ext_get_or 0 s t (l ∙ sym m) (λ i p. e i (rw l at p))
    where
      go : (o : Ordering) → is_lt o ≡ false → is_lt (ordering_reverse o) ≡ false → o ≡ Equal
      go Less x y = absurd (false≢true (sym x))
      go Equal x y = refl
      go Greater x y = absurd (false≢true (sym y))

tied_first : (k : Kind) (a b : Message) → Tied k a b → second_newer k a b ≡ false
tied_first Cpa a b e = same_stamp a.stamp b.stamp e
tied_first Request a b e = same_stamp a.stamp b.stamp e
tied_first Estimate a b e = same_stamp a.stamp b.stamp e
tied_first Solution a b e = le-ltb b.bound a.bound (omega (arith, e))
tied_first Stop a b e = refl

one_newer : (k : Kind) (a b : Message) → second_newer k a b ≡ true → second_newer k b a ≢ true
one_newer Cpa a b h g = not_both a.stamp b.stamp h g
one_newer Request a b h g = not_both a.stamp b.stamp h g
one_newer Estimate a b h g = not_both a.stamp b.stamp h g
one_newer Solution a b h g = absurd (omega (arith, ltb-true b.bound a.bound h, ltb-true a.bound b.bound g))
one_newer Stop a b h g = false≢true h

or_tied : (k : Kind) (a b : Message) → length a.stamp ≡ places → length b.stamp ≡ places → second_newer k a b ≡ false → second_newer k b a ≡ false → Tied k a b
or_tied Cpa a b l m h g = neither_later a.stamp b.stamp l m h g
or_tied Request a b l m h g = neither_later a.stamp b.stamp l m h g
or_tied Estimate a b l m h g = neither_later a.stamp b.stamp l m h g
or_tied Solution a b l m h g = omega (arith, ltb-false b.bound a.bound h, ltb-false a.bound b.bound g)
or_tied Stop a b l m h g = tt

-- ---- two lent buffers

-- two that are not refused: both read, as one kind, from one sender to one receiver
pub record Pair (n : ℕ) (sizes a b : List ℕ) : Type 0 where
  pub kind : Kind
  pub one : Message
  pub two : Message
  pub first : parse_of n sizes a ≡ Ok (kind, one)
  pub second : parse_of n sizes b ≡ Ok (kind, two)
  pub sender : one.sender ≡ two.sender
  pub receiver : one.receiver ≡ two.receiver

-- what was read stands in 64 bytes, and has 16 places in its stamp
module _ (n : ℕ) (sizes s : List ℕ) (k : Kind) (m : Message) (e : parse_of n sizes s ≡ Ok (k, m)) where
  read_length : length s ≡ message_size
  read_length = check_length s (parsed_good n sizes (slice_index s 2) s k m e).check

  read_stamp : length m.stamp ≡ places
  unfolding message_in
  read_stamp = ap (λ (x : Message). length x.stamp) (parsed_message n sizes (slice_index s 2) s k m e) ∙ simp (length-take, length-drop) (omega (arith, read_length))

abbrev turn : (n : ℕ) (sizes a b : List ℕ) → Pair n sizes a b → Pair n sizes b a
turn n sizes a b p = record { kind = p.kind; one = p.two; two = p.one; first = p.second; second = p.first; sender = sym p.sender; receiver = sym p.receiver }

module _ (n : ℕ) (sizes a b : List ℕ) where
  pub read_pair : newer_refusal n sizes a b ≡ 0 → Pair n sizes a b
  unfolding choice_of
  read_pair = go (parse_of n sizes a) refl (parse_of n sizes b) refl
    where
      same : (k l : Kind) (one two : Message) → parse_of n sizes a ≡ Ok (k, one) → parse_of n sizes b ≡ Ok (l, two) → (t : Bool) → same_slot k one l two ≡ t
          → refusal_in (cond t (Ok (cond (second_newer k one two) Second First)) (Err BadField)) ≡ 0 → Pair n sizes a b
      same k l one two p q false f e = absurd (omega (arith, e))
      same k l one two p q true f e =
          let codes : (kind_code k == kind_code l && one.sender == two.sender) ≡ true = and_left _ _ f in
          let j : k ≡ l = kind_by_code k l (eqb-true _ _ (and_left _ _ codes)) in
          record {
            kind = k;
            one = one;
            two = two;
            first = p;
            second = q ∙ ap (λ (x : Kind). Ok (x, two)) (sym j);
            sender = eqb-true _ _ (and_right (kind_code k == kind_code l) _ codes);
            receiver = eqb-true _ _ (and_right (kind_code k == kind_code l && one.sender == two.sender) _ f);
          }

      go : (x : Result (Kind × Message) Refusal) → parse_of n sizes a ≡ x → (y : Result (Kind × Message) Refusal) → parse_of n sizes b ≡ y → refusal_in (choose x y) ≡ 0 → Pair n sizes a b
      go (Err r) p y q e = absurd (number_some r e)
      go (Ok (k, one)) p (Err r) q e = absurd (number_some r e)
      go (Ok (k, one)) p (Ok (l, two)) q e = same k l one two p q (same_slot k one l two) refl e

  pair_choice : (p : Pair n sizes a b) → choice_of n sizes a b ≡ Ok (cond (second_newer p.kind p.one p.two) Second First)
  unfolding choice_of
  pair_choice p = rw (p.first, p.second, eq-eqb (kind_code p.kind) (kind_code p.kind) refl, eq-eqb _ _ p.sender, eq-eqb _ _ p.receiver)

  -- the answer is the first buffer, or the second, or empty
  pub one_of_two : (newer_of n sizes a b ≡ a) ⊎ ((newer_of n sizes a b ≡ b) ⊎ (newer_of n sizes a b ≡ []))
  one_of_two = go (choice_of n sizes a b)
    where
      go : (c : Result Which Refusal) → (handed_in c a b ≡ a) ⊎ ((handed_in c a b ≡ b) ⊎ (handed_in c a b ≡ []))
      go (Ok First) = inl refl
      go (Ok Second) = inr (inl refl)
      go (Err r) = inr (inr refl)

  -- all 64 bytes of it
  pub whole_message : newer_refusal n sizes a b ≡ 0 → length (newer_of n sizes a b) ≡ message_size
  whole_message e = let p = read_pair e in rw (pair_choice p) (go p (second_newer p.kind p.one p.two))
    where
      go : (p : Pair n sizes a b) (t : Bool) → length (handed_in (Ok (cond t Second First)) a b) ≡ message_size
      go p true = read_length n sizes b p.kind p.two p.second
      go p false = read_length n sizes a p.kind p.one p.first

  -- neither only where a refusal says why
  pub refused_neither : newer_refusal n sizes a b ≡ 0 → which_newer n sizes a b ≢ 0
  refused_neither e = let p = read_pair e in rw (pair_choice p) (go (second_newer p.kind p.one p.two))
    where
      go : (t : Bool) → which_in (Ok (cond t Second First)) ≢ 0
      go true z = omega arith
      go false z = omega arith

  -- 02: "the first on a tie"
  pub first_on_a_tie : (p : Pair n sizes a b) → Tied p.kind p.one p.two → newer_of n sizes a b ≡ a
  first_on_a_tie p t = rw (pair_choice p, tied_first p.kind _ _ t)

-- without a tie it does not matter which comes first
pub either_way : (n : ℕ) (sizes a b : List ℕ) (p : Pair n sizes a b) → Tied p.kind p.one p.two ⊎ (newer_of n sizes b a ≡ newer_of n sizes a b)
either_way n sizes a b p =
    rw (pair_choice n sizes a b p, pair_choice n sizes b a (turn n sizes a b p)) (go (second_newer p.kind p.one p.two) (second_newer p.kind p.two p.one) refl refl)
  where
    go : (s t : Bool) → second_newer p.kind p.one p.two ≡ s → second_newer p.kind p.two p.one ≡ t
        → Tied p.kind p.one p.two ⊎ (handed_in (Ok (cond t Second First)) b a ≡ handed_in (Ok (cond s Second First)) a b)
    go true true h g = absurd (one_newer p.kind p.one p.two h g)
    go true false h g = inr refl
    go false true h g = inr refl
    go false false h g = inl (or_tied p.kind p.one p.two (read_stamp n sizes a p.kind p.one p.first) (read_stamp n sizes b p.kind p.two p.second) h g)

-- a message with the kind that it was read as
abbrev pub packet_in : Kind → Message → Packet
packet_in k m = record { kind = k; message = m }

-- two messages of one cell share the three, so that one of them is handed back
pub one_cell : (n : ℕ) (sizes a b : List ℕ) (k l : Kind) (one two : Message) → parse_of n sizes a ≡ Ok (k, one) → parse_of n sizes b ≡ Ok (l, two) → slot_of n (packet_in k one) ≡ slot_of n (packet_in l two)
    → newer_refusal n sizes a b ≡ 0
one_cell n sizes a b k l one two p q e =
    let s = slot_apart n k l _ _ _ _ (read_allowed n sizes (slice_index a 2) a k one p) (read_allowed n sizes (slice_index b 2) b l two q) e in
    let r : Pair n sizes a b = record { kind = k; one = one; two = two; first = p; second = q ∙ ap (λ (x : Kind). Ok (x, two)) (sym s.0); sender = s.1; receiver = s.2 } in
    rw (pair_choice n sizes a b r) (go (second_newer k one two))
  where
    go : (t : Bool) → refusal_in (Ok (cond t Second First)) ≡ 0
    go true = refl
    go false = refl
