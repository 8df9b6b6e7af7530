-- Reading and writing are inverse. A message that writing accepts reads back as itself, and accepted bytes are written again as
-- the same bytes, so reading is injective on them; of the calls themselves `parse_written` and `writes_again` say so, in proofs/RoundTrip.
--     Fields in bytes           a field laid at its place is read there, and read bytes are laid again
--     parse_encode              a message written and read
--     ParsedGood, parsed_good   what is known of bytes that reading accepts
--     encode_parse, parse_injective     accepted bytes read and written; unpack_parsed: read with no check
--     one_byte_refused          accepted bytes with one of them changed are refused by 8
-- Assumes nothing.
use Prim.Native.Nat.{ℕ, ◌+◌, ◌≤◌, ◌<◌}
use Rattle.std.specs.Prelude.{◌≡◌, Bool, leb, eqb, drop, set, Result, Ok, Err}
use Rattle.std.proofs.Math.Path.{refl, sym, ap}
use Rattle.std.proofs.Common.{◌∙◌, arith, add-zero, length-take, length-drop, length-set, drop_at, take-add, length-take-le, get_or-take, get_or-append-add, get_or-set_same, get_or-set_other}
use Rattle.std.proofs.Math.Bool.{true, false}
use mathlib.Core.List.{List, [], ◌∷◌, ◌++◌, append_assoc}
use borrow.Author.Tests.{eq-eqb, ne_eqb, eqb-true, eqb-false, ltb-true, ltb-false, leb-true, le-leb}
use Rattle.std.proofs.Math.Dec.{ltb}
use Rattle.std.proofs.Math.ListN.{length, take, get_or, length-append}
use Rattle.std.proofs.Math.Seq.{take_at, take_all, take-set-lt}
use Rattle.std.proofs.lemmas.List.{take-set-le}
use Rattle.base.specs.Bytes.{u16_at, u32_at, le16, le32}
use Rattle.base.specs.Bytes.Laws.{AllBytes, u16_of_le16, u32_of_le32, four_bytes, le16_again, le32_again}
use Rattle.base.specs.declared.Refusal.{Refusal}
use Rattle.base.specs.declared.Refusal.TheVariants.{OutOfRange, Damaged, BadField, BadUnit}
use Rattle.base.specs.Limits.{message_size}
use Rattle.base.specs.Shape.{shape_good}
use Rattle.base.specs.Shape.Laws.{and_left, and_right}
use Rattle.checksum.specs.Sum.{sum_of}
use Rattle.checksum.specs.Sum.Laws.{sum_small}
use Rattle.checksum.specs.OneByte.{one_byte}
use Rattle.message.specs.declared.Kind.{Kind}
use Rattle.message.specs.declared.Kind.TheVariants.{Cpa, Request, Estimate, Solution, Stop}
use Rattle.message.specs.declared.Message.{Message}
use Rattle.message.specs.Layout.{stamp_byte, values_byte, cost_byte, bound_byte, best_byte, zero_byte, check_byte}
use Rattle.message.specs.Message.{kind_code, kind_of, address_good, well_formed}
use Rattle.message.specs.Sized.{Sized}
use Rattle.message.specs.Decode.{message_in, check_good, rest_zero, parse_kind, parse_for, put_refusal, write_refusal}
use Rattle.message.specs.Unpack.{unpack_of}
use Rattle.message.specs.Written.{body, encode}
use Rattle.message.specs.EncodeLaws.{head, length_body, length_encode}
use Rattle.message.specs.DecodeLaws.{addressed_to, check_length, parse_5, parse_8, parse_10, parse_on, kind_refused, kind_rest, kind_unfit, kind_good}

-- ------------------------------------------------------------------------------------------------------------------
-- Fields in bytes.

-- the bytes q after p, and then r, read by their place
field_after : (p q r : List ℕ) (at n : ℕ) → length p ≡ at → length q ≡ n → take n (drop at (p ++ q ++ r)) ≡ q
field_after p q r at n e f = rw (append_assoc, drop_at p (q ++ r) at e, take_at q r n f)

byte_after : (p q : List ℕ) (at j : ℕ) → length p ≡ at → get_or (p ++ q) (at + j) 0 ≡ get_or q j 0
byte_after p q at j e = rw (← e) (get_or-append-add p q j 0)

u16_after : (p q : List ℕ) (at : ℕ) → length p ≡ at → u16_at (p ++ q) at ≡ u16_at q 0
u16_after p q at e =
    let f : get_or (p ++ q) at 0 ≡ get_or q 0 0 = rw add-zero at (byte_after p q at 0 e) in
    rw (f, byte_after p q at 1 e)

u32_after : (p q : List ℕ) (at : ℕ) → length p ≡ at → u32_at (p ++ q) at ≡ u32_at q 0
u32_after p q at e =
    let f : at + 2 + 1 ≡ at + 3 = omega arith in
    rw (u16_after p q at e, byte_after p q at 2 e, f, byte_after p q at 3 e)

-- eight pieces in a row, grouped around one of them
module _ (a b c d e f g w : List ℕ) where
  around_b : a ++ b ++ c ++ d ++ e ++ f ++ g ++ w ≡ a ++ b ++ (c ++ d ++ e ++ f ++ g ++ w)
  around_b = simp append_assoc

  around_c : a ++ b ++ c ++ d ++ e ++ f ++ g ++ w ≡ a ++ b ++ c ++ (d ++ e ++ f ++ g ++ w)
  around_c = simp append_assoc

  around_d : a ++ b ++ c ++ d ++ e ++ f ++ g ++ w ≡ (a ++ b ++ c) ++ (d ++ (e ++ f ++ g ++ w))
  around_d = simp append_assoc

  around_e : a ++ b ++ c ++ d ++ e ++ f ++ g ++ w ≡ (a ++ b ++ c ++ d) ++ (e ++ (f ++ g ++ w))
  around_e = simp append_assoc

  around_f : a ++ b ++ c ++ d ++ e ++ f ++ g ++ w ≡ a ++ b ++ c ++ d ++ e ++ f ++ (g ++ w)
  around_f = simp append_assoc

  around_g : a ++ b ++ c ++ d ++ e ++ f ++ g ++ w ≡ (a ++ b ++ c ++ d ++ e ++ f) ++ (g ++ w)
  around_g = simp append_assoc

-- ------------------------------------------------------------------------------------------------------------------
-- A message written and read.

-- the pieces of the 64 bytes that are no field as it stands
abbrev first : Kind → Message → List ℕ
first k m = head (kind_code k) m

abbrev last : Kind → Message → List ℕ
last k m = le16 (sum_of (body k m))

abbrev zeros : List ℕ
zeros = 0 ∷ 0 ∷ []

module _ (k : Kind) (m : Message) (z : Sized m) where
  check_of_encode : check_good (encode k m) ≡ true
  unfolding check_good encode
  check_of_encode =
      let b : List ℕ = body k m in
      let x : ℕ = sum_of b in
      let h : length b ≡ check_byte = length_body k m z in
      let l : length (b ++ le16 x) ≡ message_size = length_encode k m z in
      let u : u16_at (b ++ le16 x) check_byte ≡ x = u16_after b (le16 x) check_byte h ∙ u16_of_le16 x (omega (arith, sum_small b)) in
      rw (eq-eqb (length (b ++ le16 x)) message_size l, take_at b (le16 x) check_byte h) (eq-eqb (u16_at (b ++ le16 x) check_byte) x u)

  -- each field is read where it was laid
  stamp_of_encode : take 16 (drop stamp_byte (encode k m)) ≡ m.stamp
  unfolding encode body
  stamp_of_encode =
      ap (λ (s : List ℕ). take 16 (drop stamp_byte s)) (around_b (first k m) m.stamp m.values (le32 m.cost) (le32 m.bound) m.best zeros (last k m))
      ∙ field_after (first k m) m.stamp (m.values ++ le32 m.cost ++ le32 m.bound ++ m.best ++ zeros ++ last k m) stamp_byte 16 refl z.stamp

  values_of_encode : take 16 (drop values_byte (encode k m)) ≡ m.values
  unfolding encode body
  values_of_encode =
      let h : length (first k m ++ m.stamp) ≡ values_byte = simp length-append (omega arith) in
      ap (λ (s : List ℕ). take 16 (drop values_byte s)) (around_c (first k m) m.stamp m.values (le32 m.cost) (le32 m.bound) m.best zeros (last k m))
      ∙ field_after (first k m ++ m.stamp) m.values (le32 m.cost ++ le32 m.bound ++ m.best ++ zeros ++ last k m) values_byte 16 h z.values

  cost_of_encode : u32_at (encode k m) cost_byte ≡ m.cost
  unfolding encode body
  cost_of_encode =
      let h : length (first k m ++ m.stamp ++ m.values) ≡ cost_byte = simp length-append (omega arith) in
      ap (λ (s : List ℕ). u32_at s cost_byte) (around_d (first k m) m.stamp m.values (le32 m.cost) (le32 m.bound) m.best zeros (last k m))
      ∙ u32_after (first k m ++ m.stamp ++ m.values) (le32 m.cost ++ (le32 m.bound ++ m.best ++ zeros ++ last k m)) cost_byte h ∙ u32_of_le32 m.cost z.cost

  bound_of_encode : u32_at (encode k m) bound_byte ≡ m.bound
  unfolding encode body
  bound_of_encode =
      let h : length (first k m ++ m.stamp ++ m.values ++ le32 m.cost) ≡ bound_byte = simp length-append (omega arith) in
      ap (λ (s : List ℕ). u32_at s bound_byte) (around_e (first k m) m.stamp m.values (le32 m.cost) (le32 m.bound) m.best zeros (last k m))
      ∙ u32_after (first k m ++ m.stamp ++ m.values ++ le32 m.cost) (le32 m.bound ++ (m.best ++ zeros ++ last k m)) bound_byte h ∙ u32_of_le32 m.bound z.bound

  best_of_encode : take 16 (drop best_byte (encode k m)) ≡ m.best
  unfolding encode body
  best_of_encode =
      let h : length (first k m ++ m.stamp ++ m.values ++ le32 m.cost ++ le32 m.bound) ≡ best_byte = simp length-append (omega arith) in
      ap (λ (s : List ℕ). take 16 (drop best_byte s)) (around_f (first k m) m.stamp m.values (le32 m.cost) (le32 m.bound) m.best zeros (last k m))
      ∙ field_after (first k m ++ m.stamp ++ m.values ++ le32 m.cost ++ le32 m.bound) m.best (zeros ++ last k m) best_byte 16 h z.best

  rest_of_encode : rest_zero (encode k m) ≡ true
  unfolding rest_zero encode body
  rest_of_encode =
      let h : length (first k m ++ m.stamp ++ m.values ++ le32 m.cost ++ le32 m.bound ++ m.best) ≡ zero_byte = simp length-append (omega arith) in
      let e : u16_at (encode k m) zero_byte ≡ 0 = ap (λ (s : List ℕ). u16_at s zero_byte) (around_g (first k m) m.stamp m.values (le32 m.cost) (le32 m.bound) m.best zeros (last k m))
      ∙ u16_after (first k m ++ m.stamp ++ m.values ++ le32 m.cost ++ le32 m.bound ++ m.best) (zeros ++ last k m) zero_byte h in
      eq-eqb (u16_at (encode k m) zero_byte) 0 e

  pub sender_of_encode : get_or (encode k m) 1 0 ≡ m.sender
  unfolding encode body
  sender_of_encode = refl

  pub receiver_of_encode : get_or (encode k m) 2 0 ≡ m.receiver
  unfolding encode body
  receiver_of_encode = refl

  pub message_of_encode : message_in (encode k m) ≡ m
  unfolding message_in
  message_of_encode = rw (sender_of_encode, receiver_of_encode, stamp_of_encode, values_of_encode, cost_of_encode, bound_of_encode, best_of_encode)

  kind_of_encode : kind_of (get_or (encode k m) 0 0) ≡ Ok k
  unfolding encode body
  kind_of_encode = go k
    where
      go : (k : Kind) → kind_of (kind_code k) ≡ Ok k
      go Cpa = refl
      go Request = refl
      go Estimate = refl
      go Solution = refl
      go Stop = refl

-- a message that fits its kind, written, and read by its receiver
pub parse_encode : (n : ℕ) (sizes : List ℕ) (k : Kind) (m : Message) → shape_good n sizes ≡ true → address_good n m ≡ true → well_formed n sizes k m ≡ true → Sized m
    → parse_for n sizes m.receiver (encode k m) ≡ Ok (k, m)
parse_encode n sizes k m shape address formed z =
    let e : message_in (encode k m) ≡ m = message_of_encode k m z in
    let h : addressed_to n m.receiver (message_in (encode k m)) ≡ true = rw (e, address) (eq-eqb m.receiver m.receiver refl) in
    parse_on n sizes m.receiver (encode k m) shape (check_of_encode k m z) h
    ∙ rw e (kind_good n sizes (encode k m) m (kind_of (get_or (encode k m) 0 0)) k (kind_of_encode k m z) (rest_of_encode k m z) formed)

-- ------------------------------------------------------------------------------------------------------------------
-- What `write` accepts.

pub record Writable (n : ℕ) (sizes : List ℕ) (k : Kind) (m : Message) (room : ℕ) : Type 0 where
  pub shape : shape_good n sizes ≡ true
  pub address : address_good n m ≡ true
  pub formed : well_formed n sizes k m ≡ true
  pub fits : message_size ≤ room

pub writable : (n : ℕ) (sizes : List ℕ) (k : Kind) (m : Message) (room : ℕ) → write_refusal n sizes k m room ≡ 0 → Writable n sizes k m room
unfolding write_refusal put_refusal
writable n sizes k m room e = go (shape_good n sizes) refl (address_good n m) refl (well_formed n sizes k m) refl (leb (0 + message_size) room) refl
  where
    never : (r : ℕ) → 0 < r → r ≡ 0 → Writable n sizes k m room
    never r h q = absurd (omega arith)

    go : (a : Bool) → shape_good n sizes ≡ a → (b : Bool) → address_good n m ≡ b → (c : Bool) → well_formed n sizes k m ≡ c → (d : Bool) → leb (0 + message_size) room ≡ d → Writable n sizes k m room
    go false p b q c t d u = never 5 (omega arith) (rw p at e)
    go true p false q c t d u = never 10 (omega arith) (rw (p, q) at e)
    go true p true q false t d u = never 9 (omega arith) (rw (p, q, t) at e)
    go true p true q true t false u = never 13 (omega arith) (rw (p, q, t, u) at e)
    go true p true q true t true u = record { shape = p; address = q; formed = t; fits = leb-true (0 + message_size) room u }

pub writable_by : (n : ℕ) (sizes : List ℕ) (k : Kind) (m : Message) (room : ℕ) → Writable n sizes k m room → write_refusal n sizes k m room ≡ 0
unfolding write_refusal put_refusal
writable_by n sizes k m room w = rw (w.shape, w.address, w.formed, le-leb (0 + message_size) room w.fits)

-- ------------------------------------------------------------------------------------------------------------------
-- Accepted bytes, read and written.

-- what is known of bytes that reading accepts
pub record ParsedGood (n : ℕ) (sizes : List ℕ) (own : ℕ) (s : List ℕ) (k : Kind) : Type 0 where
  pub shape : shape_good n sizes ≡ true
  pub check : check_good s ≡ true
  pub address : address_good n (message_in s) ≡ true
  pub receiver : (message_in s).receiver ≡ own
  pub kind : kind_of (get_or s 0 0) ≡ Ok k
  pub rest : rest_zero s ≡ true
  pub formed : well_formed n sizes k (message_in s) ≡ true
  pub whole : parse_for n sizes own s ≡ Ok (k, message_in s)

same_read : {p q : Kind × Message} → ◌≡◌ {A = Result (Kind × Message) Refusal} (Ok p) (Ok q) → p ≡ q
same_read e = cc

module _ (n : ℕ) (sizes : List ℕ) (own : ℕ) (s : List ℕ) (k : Kind) (m : Message) (good : parse_for n sizes own s ≡ Ok (k, m)) where
  -- an answer that refuses is none that accepts
  never_refused : (r : Refusal) → parse_for n sizes own s ≡ Err r → ⊥
  never_refused r e = let c : ◌≡◌ {A = Result (Kind × Message) Refusal} (Ok (k, m)) (Err r) = sym good ∙ e in grind arith

  -- past check 10, by the kind read and the two parts of check 9
  module _ (p : shape_good n sizes ≡ true) (q : check_good s ≡ true) (t : addressed_to n own (message_in s) ≡ true) where
    on : parse_for n sizes own s ≡ parse_kind n sizes s (message_in s) (kind_of (get_or s 0 0))
    on = parse_on n sizes own s p q t

    by_fields : (j : Kind) → kind_of (get_or s 0 0) ≡ Ok j → (r : Bool) → rest_zero s ≡ r → (w : Bool) → well_formed n sizes j (message_in s) ≡ w → ParsedGood n sizes own s k
    by_fields j e false f w g = absurd (never_refused BadField (on ∙ kind_rest n sizes s (message_in s) _ j e f))
    by_fields j e true f false g = absurd (never_refused BadField (on ∙ kind_unfit n sizes s (message_in s) _ j e f g))
    by_fields j e true f true g =
        let h : parse_for n sizes own s ≡ Ok (j, message_in s) = on ∙ kind_good n sizes s (message_in s) _ j e f g in
        let i : j ≡ k = ap (λ (p : Kind × Message). p.0) (same_read (sym h ∙ good)) in
        record {
          shape = p;
          check = q;
          address = and_left _ _ t;
          receiver = eqb-true (message_in s).receiver own (and_right (address_good n (message_in s)) _ t);
          kind = rw i at e;
          rest = f;
          formed = rw i at g;
          whole = rw i at h;
        }

    by_kind_lem : (a : Result Kind Refusal) → kind_of (get_or s 0 0) ≡ a → ParsedGood n sizes own s k
    by_kind_lem (Ok j) e = by_fields j e (rest_zero s) refl (well_formed n sizes j (message_in s)) refl
    by_kind_lem (Err r) e = absurd (never_refused r (on ∙ kind_refused n sizes s (message_in s) _ r e))

  pub parsed_good : ParsedGood n sizes own s k
  parsed_good = go (shape_good n sizes) refl (check_good s) refl (addressed_to n own (message_in s)) refl
    where
      go : (a : Bool) → shape_good n sizes ≡ a → (b : Bool) → check_good s ≡ b → (d : Bool) → addressed_to n own (message_in s) ≡ d → ParsedGood n sizes own s k
      go false p b q d t = absurd (never_refused OutOfRange (parse_5 n sizes own s p))
      go true p false q d t = absurd (never_refused Damaged (parse_8 n sizes own s p q))
      go true p true q false t = absurd (never_refused BadUnit (parse_10 n sizes own s p q t))
      go true p true q true t = by_kind_lem p q t (kind_of (get_or s 0 0)) refl

  -- its fields are those of the bytes
  pub parsed_message : m ≡ message_in s
  parsed_message = ap (λ (p : Kind × Message). p.1) (same_read (sym good ∙ parsed_good.whole))

-- byte 0 is the number of the kind read
kind_code_lem : (b : ℕ) (k : Kind) → kind_of b ≡ Ok k → kind_code k ≡ b
kind_code_lem b k e = go (eqb b 1) refl (eqb b 2) refl (eqb b 3) refl (eqb b 4) refl (eqb b 5) refl
  where
    same : (i : ℕ) (j : Kind) → eqb b i ≡ true → ◌≡◌ {A = Result Kind Refusal} (Ok j) (Ok k) → kind_code j ≡ i → kind_code k ≡ b
    same i j t h c = let f : j ≡ k = cc in rw f at c ∙ sym (eqb-true b i t)

    go : (p : Bool) → eqb b 1 ≡ p → (q : Bool) → eqb b 2 ≡ q → (r : Bool) → eqb b 3 ≡ r → (t : Bool) → eqb b 4 ≡ t → (u : Bool) → eqb b 5 ≡ u → kind_code k ≡ b
    go true p q _ r _ t _ u _ = same 1 Cpa p (rw p at e) refl
    go false p true q r _ t _ u _ = same 2 Request q (rw (p, q) at e) refl
    go false p false q true r t _ u _ = same 3 Estimate r (rw (p, q, r) at e) refl
    go false p false q false r true t u _ = same 4 Solution t (rw (p, q, r, t) at e) refl
    go false p false q false r false t true u = same 5 Stop u (rw (p, q, r, t, u) at e) refl
    go false p false q false r false t false u = let h : ◌≡◌ {A = Result Kind Refusal} (Err BadField) (Ok k) = rw (p, q, r, t, u) at e in absurd (grind arith)

-- the first 62 bytes, cut where the fields are
cut : (s : List ℕ) → take check_byte s ≡ take stamp_byte s ++ take 16 (drop stamp_byte s) ++ take 16 (drop values_byte s) ++ take 4 (drop cost_byte s) ++ take 4 (drop bound_byte s) ++ take 16 (drop best_byte s) ++ take 2 (drop zero_byte s)
cut s = rw (take-add zero_byte 2 s, take-add best_byte 16 s, take-add bound_byte 4 s, take-add cost_byte 4 s, take-add values_byte 16 s, take-add stamp_byte 16 s)

same_pieces : {a a' c c' d d' g g' : List ℕ} (x y w : List ℕ) → a ≡ a' → c ≡ c' → d ≡ d' → g ≡ g' → a ++ x ++ y ++ c ++ d ++ w ++ g ≡ a' ++ x ++ y ++ c' ++ d' ++ w ++ g'
same_pieces x y w p q r t = cc

module _ (s : List ℕ) (l : length s ≡ message_size) (bytes : AllBytes s) (k : Kind) (kind : kind_of (get_or s 0 0) ≡ Ok k) (rest : rest_zero s ≡ true) (check : check_good s ≡ true) where
  first_again : head (kind_code k) (message_in s) ≡ take stamp_byte s
  unfolding message_in rest_zero
  first_again =
      let z : get_or s 3 0 ≡ 0 = eqb-true (get_or s 3 0) 0 (and_left _ _ rest) in
      rw (kind_code_lem (get_or s 0 0) k kind) (ap (λ (x : ℕ). get_or s 0 0 ∷ get_or s 1 0 ∷ get_or s 2 0 ∷ x ∷ []) (sym z) ∙ sym (four_bytes s 0 (omega arith)))

  zeros_again : zeros ≡ take 2 (drop zero_byte s)
  unfolding rest_zero
  zeros_again =
      let z : u16_at s zero_byte ≡ 0 = eqb-true (u16_at s zero_byte) 0 (and_right (eqb (get_or s 3 0) 0) _ rest) in
      ap le16 (sym z) ∙ le16_again s zero_byte (omega arith) bytes

  body_again : body k (message_in s) ≡ take check_byte s
  unfolding body message_in
  body_again =
      same_pieces (take 16 (drop stamp_byte s)) (take 16 (drop values_byte s)) (take 16 (drop best_byte s)) first_again (le32_again s cost_byte (omega arith) bytes) (le32_again s bound_byte (omega arith) bytes) zeros_again
      ∙ sym (cut s)

  pub encode_again : encode k (message_in s) ≡ s
  unfolding encode check_good
  encode_again =
      let c : u16_at s check_byte ≡ sum_of (take check_byte s) = eqb-true (u16_at s check_byte) (sum_of (take check_byte s)) (and_right (eqb (length s) message_size) _ check) in
      let e : le16 (sum_of (body k (message_in s))) ≡ take 2 (drop check_byte s) = ap (λ (b : List ℕ). le16 (sum_of b)) body_again ∙ ap le16 (sym c) ∙ le16_again s check_byte (omega arith) bytes in
      ap (λ (b : List ℕ). b ++ le16 (sum_of (body k (message_in s)))) body_again ∙ ap (λ (w : List ℕ). take check_byte s ++ w) e ∙ sym (take-add check_byte 2 s) ∙ take_all message_size s (omega arith)

-- the fields of 64 bytes are sized as the types of the code say
pub sized_in : (s : List ℕ) → length s ≡ message_size → AllBytes s → Sized (message_in s)
unfolding message_in
sized_in s l bytes = record {
  stamp = simp (length-take, length-drop) (omega arith);
  values = simp (length-take, length-drop) (omega arith);
  best = simp (length-take, length-drop) (omega arith);
  cost = omega (arith, bytes cost_byte, bytes 37, bytes 38, bytes 39);
  bound = omega (arith, bytes bound_byte, bytes 41, bytes 42, bytes 43);
}

-- accepted bytes, read and written again, are the same bytes
pub encode_parse : (n : ℕ) (sizes : List ℕ) (own : ℕ) (s : List ℕ) (k : Kind) (m : Message) → AllBytes s → parse_for n sizes own s ≡ Ok (k, m) → encode k m ≡ s
encode_parse n sizes own s k m b e =
    let a : ParsedGood n sizes own s k = parsed_good n sizes own s k m e in
    ap (encode k) (parsed_message n sizes own s k m e) ∙ encode_again s (check_length s a.check) b k a.kind a.rest a.check

-- what reading accepts is what stands there unchecked
pub unpack_parsed : (n : ℕ) (sizes : List ℕ) (own : ℕ) (s : List ℕ) (k : Kind) (m : Message) → parse_for n sizes own s ≡ Ok (k, m) → unpack_of s ≡ parse_for n sizes own s
unfolding unpack_of
unpack_parsed n sizes own s k m e =
    let a : ParsedGood n sizes own s k = parsed_good n sizes own s k m e in
    rw (eq-eqb (length s) message_size (check_length s a.check), a.kind) (sym a.whole)

-- so no two of them read alike
pub parse_injective : (n : ℕ) (sizes : List ℕ) (own : ℕ) (s t : List ℕ) (k : Kind) (m : Message) → AllBytes s → AllBytes t
    → parse_for n sizes own s ≡ Ok (k, m) → parse_for n sizes own s ≡ parse_for n sizes own t → s ≡ t
parse_injective n sizes own s t k m b c e f = sym (encode_parse n sizes own s k m b e) ∙ encode_parse n sizes own t k m c (sym f ∙ e)

-- ------------------------------------------------------------------------------------------------------------------
-- Accepted bytes with one of them changed are refused by 8.

module _ (s : List ℕ) (l : length s ≡ message_size) (bytes : AllBytes s) (check : check_good s ≡ true) (i x : ℕ) (h : i < message_size) (b : x < 256) (differ : x ≡ get_or s i 0 → ⊥) where
  stored : u16_at s check_byte ≡ sum_of (take check_byte s)
  unfolding check_good
  stored = eqb-true (u16_at s check_byte) (sum_of (take check_byte s)) (and_right (eqb (length s) message_size) _ check)

  kept : (j : ℕ) → (j ≡ i → ⊥) → get_or (set s i x) j 0 ≡ get_or s j 0
  kept j d = get_or-set_other s i j x 0 d

  -- of the bytes that are summed: the sum changes, and not what is stored
  sum_changed : i < check_byte → u16_at (set s i x) check_byte ≡ sum_of (take check_byte (set s i x)) → ⊥
  sum_changed k e =
      let t : get_or (take check_byte s) i 0 ≡ get_or s i 0 = get_or-take check_byte s i 0 k in
      let n : length (take check_byte s) ≡ check_byte = length-take-le check_byte s (omega arith) in
      let u : u16_at (set s i x) check_byte ≡ u16_at s check_byte = rw (kept check_byte (λ q. omega arith), kept 63 (λ q. omega arith)) in
      let v : sum_of (set (take check_byte s) i x) ≡ sum_of (take check_byte s) = ap sum_of (sym (take-set-lt check_byte s i x k)) ∙ sym e ∙ u ∙ stored in
      one_byte (take check_byte s) i x (omega arith) (omega arith) (rw t (bytes i)) b (λ q. differ (q ∙ t)) v

  -- of the two that store the sum: that changes, and not the sum
  store_changed : check_byte ≤ i → u16_at (set s i x) check_byte ≡ sum_of (take check_byte (set s i x)) → ⊥
  store_changed k e = go (eqb i check_byte) refl
    where
      v : u16_at (set s i x) check_byte ≡ u16_at s check_byte
      v = e ∙ ap sum_of (take-set-le check_byte s i x k) ∙ sym stored

      same : get_or (set s i x) i 0 ≡ x
      same = get_or-set_same s i x 0 (omega arith)

      go : (t : Bool) → eqb i check_byte ≡ t → ⊥
      go true q =
          let z : i ≡ check_byte = eqb-true i check_byte q in
          let w : get_or (set s i x) check_byte 0 ≡ x = ap (λ (j : ℕ). get_or (set s i x) j 0) (sym z) ∙ same in
          differ (rw z (omega (arith, v, w, kept 63 (λ y. omega arith))))
      go false q =
          let z : i ≡ 63 = omega (arith, eqb-false i check_byte q) in
          let w : get_or (set s i x) 63 0 ≡ x = ap (λ (j : ℕ). get_or (set s i x) j 0) (sym z) ∙ same in
          differ (rw z (omega (arith, v, w, kept check_byte (λ y. omega arith))))

  check_changed : check_good (set s i x) ≡ false
  unfolding check_good
  check_changed =
      rw (length-set s i x, eq-eqb (length s) message_size l)
      (ne_eqb (u16_at (set s i x) check_byte) (sum_of (take check_byte (set s i x))) (λ e. go (ltb i check_byte) refl e))
    where
      go : (t : Bool) → ltb i check_byte ≡ t → u16_at (set s i x) check_byte ≡ sum_of (take check_byte (set s i x)) → ⊥
      go true q e = sum_changed (ltb-true i check_byte q) e
      go false q e = store_changed (ltb-false i check_byte q) e

pub one_byte_refused : (n : ℕ) (sizes : List ℕ) (own : ℕ) (s : List ℕ) (k : Kind) (m : Message) → AllBytes s → parse_for n sizes own s ≡ Ok (k, m)
    → (i x : ℕ) → i < message_size → x < 256 → (x ≡ get_or s i 0 → ⊥) → parse_for n sizes own (set s i x) ≡ Err Damaged
one_byte_refused n sizes own s k m bytes e i x h b differ =
    let a : ParsedGood n sizes own s k = parsed_good n sizes own s k m e in
    parse_8 n sizes own (set s i x) a.shape (check_changed s (check_length s a.check) bytes a.check i x h b differ)
