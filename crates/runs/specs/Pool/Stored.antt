-- 01's pool, as messages and as bytes (`Stored`): the messages that wait stand one after the other, each in 64 bytes. What the proof of demand 3 asks of a
-- pool stands here: its start, the message at a cell and its bytes, and what taking it out and putting others in leaves.
-- In order: packets one after the other; a pool that holds some; the message at a cell; `Stored`.
-- Assumes nothing.
use Rattle.std.specs.Prelude.{ℕ, zero, suc, ◌+◌, ◌*◌, ◌-◌, ◌≤◌, ◌<◌, ◌≡◌, refl, Bool, true, false, cond, List, [], ◌∷◌, ◌++◌, take}
use Rattle.std.proofs.Math.Path.{sym, ap}
use Rattle.std.proofs.Common.{◌∙◌, subst, append_assoc, arith, take-append-drop, length-append, length-drop, drop_at}
use Rattle.std.proofs.Math.Option.{none, some, some-injective, some-ne-none}
use Rattle.std.proofs.Math.ListN.{length, drop}
use Rattle.std.proofs.Math.Seq.{take_at}
use Rattle.base.specs.Limits.{pool_cells, pool_size, message_size}
use Rattle.base.specs.Members.{In, here, there, Every}
use Rattle.base.specs.Members.Laws.{in_left, in_right, every_append}
use Rattle.message.specs.Message.{Packet}
use Rattle.message.specs.Sized.{Sized}
use Rattle.message.specs.Written.{encode}
use Rattle.message.specs.EncodeLaws.{length_encode}
use Rattle.rules.specs.Send.{encode_all, laid}
use Rattle.rules.specs.Laying.{encode_append}
use Rattle.runs.specs.Pool.{cell_of, pool_after, pool_with}
use Rattle.runs.specs.Pool.Laws.{later_cells}
use Rattle.runs.specs.Run.{cells}

-- ---- packets one after the other

abbrev pub AllSized : List Packet → Type 0
AllSized ps = Every (λ p. Sized p.message) ps

encode_all_more : (p : Packet) (a : List Packet) → encode_all (p ∷ a) ≡ encode p.kind p.message ++ encode_all a
unfolding encode_all
encode_all_more p a = refl

pub encode_all_length : (ps : List Packet) → AllSized ps → length (encode_all ps) ≡ message_size * length ps
unfolding encode_all
encode_all_length [] z = refl
encode_all_length (p ∷ ps) z =
    omega (
      arith,
      length-append (encode p.kind p.message) (encode_all ps),
      length_encode p.kind p.message (z p (here refl)),
      encode_all_length ps (λ q i. z q (there i)),
    )

-- ---- a pool that holds the packets b, p, a one after the other, and then R

module _ (b : List Packet) (p : Packet) (a : List Packet) (R : List ℕ) (zb : AllSized b) (zp : Sized p.message) (za : AllSized a) where
  abbrev holding : List ℕ
  holding = encode_all b ++ (encode p.kind p.message ++ (encode_all a ++ R))

  behind : drop (message_size * suc (length b)) holding ≡ encode_all a ++ R
  behind =
      ap (drop (message_size * suc (length b))) (sym (append_assoc (encode_all b) (encode p.kind p.message) (encode_all a ++ R)))
      ∙ drop_at (encode_all b ++ encode p.kind p.message) (encode_all a ++ R) (message_size * suc (length b))
      (omega (arith, length-append (encode_all b) (encode p.kind p.message), encode_all_length b zb, length_encode p.kind p.message zp))

  cell_holds : cell_of holding (length b) ≡ encode p.kind p.message
  cell_holds =
      ap (take message_size) (drop_at (encode_all b) (encode p.kind p.message ++ (encode_all a ++ R)) (message_size * length b) (encode_all_length b zb))
      ∙ take_at (encode p.kind p.message) (encode_all a ++ R) message_size (length_encode p.kind p.message zp)

  later_hold : (used : ℕ) → used ≡ suc (length b) + length a → later_cells holding used (length b) ≡ encode_all a
  later_hold used e =
      let q : used - suc (length b) ≡ length a = omega arith in
      ap (take (message_size * (used - suc (length b)))) behind ∙ take_at (encode_all a) R (message_size * (used - suc (length b))) (rw q (encode_all_length a za))

  after_holds : (used : ℕ) → used ≡ suc (length b) + length a → (ps : List Packet)
      → pool_after used (length b) ps holding ≡ encode_all ((b ++ a) ++ ps) ++ drop (message_size * (used - 1 + length ps)) holding
  unfolding pool_after
  after_holds used e ps =
      (λ i. take_at (encode_all b) (encode p.kind p.message ++ (encode_all a ++ R)) (message_size * length b) (encode_all_length b zb) i ++ later_hold used e i ++ encode_all ps ++ drop (message_size * (used - 1 + length ps)) holding)
      ∙ sym (ap (λ l. l ++ drop (message_size * (used - 1 + length ps)) holding) (encode_append (b ++ a) ps ∙ ap (λ l. l ++ encode_all ps) (encode_append b a)))

-- ---- the message at a cell

-- p stands at the cell c
pub record StandsAt (ms : List Packet) (c : ℕ) (p : Packet) : Type 0 where
  pub whole : ms ≡ take c ms ++ (p ∷ drop (suc c) ms)
  pub many : length (take c ms) ≡ c

pub stands_at : (ms : List Packet) (c : ℕ) (p : Packet) → cells.at ms c ≡ some p → StandsAt ms c p
stands_at [] zero p e = absurd (some-ne-none p (sym e))
stands_at [] (suc c) p e = absurd (some-ne-none p (sym e))
stands_at (x ∷ ms) zero p e = record { whole = ap (λ y. y ∷ ms) (some-injective x p e); many = refl }
stands_at (x ∷ ms) (suc c) p e = let r = stands_at ms c p e in record { whole = ap (λ l. x ∷ l) r.whole; many = ap suc r.many }

pub none_at : (ms : List Packet) (c : ℕ) → cells.at ms c ≡ none → length ms ≤ c
none_at [] c e = omega arith
none_at (x ∷ ms) zero e = absurd (some-ne-none x e)
none_at (x ∷ ms) (suc c) e = omega (arith, none_at ms c e)

-- whether others fit
pub no_room : (t : Bool) (ms : List Packet) → cond t (some ms) none ≡ none → t ≡ false
no_room true ms e = absurd (some-ne-none ms e)
no_room false ms e = refl

pub some_room : (t : Bool) (ms w : List Packet) → cond t (some ms) none ≡ some w → (t ≡ true) × (ms ≡ w)
some_room true ms w e = (refl, some-injective ms w e)
some_room false ms w e = absurd (some-ne-none w (sym e))

-- ---- messages in their cells

pub record Stored (ms : List Packet) (used : ℕ) (pool : List ℕ) : Type 0 where
  pub count : used ≡ length ms
  pub front : take (message_size * length ms) pool ≡ encode_all ms
  pub room : pool_size ≤ length pool

-- m packets in front, and then what lies past them
front_stored : (ms : List Packet) (pool : List ℕ) → AllSized ms → length ms ≤ pool_cells → pool_size ≤ length pool → (n : ℕ) → n ≡ length ms
    → Stored ms n (encode_all ms ++ drop (message_size * n) pool)
front_stored ms pool z few long n e =
    record {
      count = e;
      front = take_at (encode_all ms) (drop (message_size * n) pool) (message_size * length ms) (encode_all_length ms z);
      room = omega (arith, length-append (encode_all ms) (drop (message_size * n) pool), length-drop (message_size * n) pool, encode_all_length ms z);
    }

-- making lays what it sends in front
pub start-stored : (ps : List Packet) (pool : List ℕ) → AllSized ps → length ps ≤ pool_cells → pool_size ≤ length pool → Stored (cells.start ps) (length ps) (laid ps pool)
unfolding laid
start-stored ps pool z few long = front_stored ps pool z few long (length ps) refl

-- an echo adds what is sent behind what waits
pub added_stored : (ms : List Packet) (used : ℕ) (pool : List ℕ) → Stored ms used pool → AllSized ms → (ps : List Packet) → AllSized ps → length (ms ++ ps) ≤ pool_cells
    → Stored (ms ++ ps) (used + length ps) (pool_with used ps pool)
unfolding pool_with
added_stored ms used pool st z ps zs few =
    subst (Stored (ms ++ ps) (used + length ps)) (sym is)
    (front_stored (ms ++ ps) pool (every_append _ ms ps z zs) few st.room (used + length ps) (omega (arith, st.count, length-append ms ps)))
  where
    is : take (message_size * used) pool ++ encode_all ps ++ drop (message_size * (used + length ps)) pool ≡ encode_all (ms ++ ps) ++ drop (message_size * (used + length ps)) pool
    is =
        ap (λ l. l ++ encode_all ps ++ drop (message_size * (used + length ps)) pool) (ap (λ k. take (message_size * k) pool) st.count ∙ st.front)
        ∙ ap (λ l. l ++ drop (message_size * (used + length ps)) pool) (sym (encode_append ms ps))

module _ (ms : List Packet) (used : ℕ) (pool : List ℕ) (st : Stored ms used pool) (z : AllSized ms) (c : ℕ) (p : Packet) (e : cells.at ms c ≡ some p) where
  stands : StandsAt ms c p
  stands = stands_at ms c p e

  zb : AllSized (take c ms)
  zb x i = z x (subst (In x) (sym stands.whole) (in_left (p ∷ drop (suc c) ms) i))

  zp : Sized p.message
  zp = z p (subst (In p) (sym stands.whole) (in_right (take c ms) (here refl)))

  za : AllSized (drop (suc c) ms)
  za x i = z x (subst (In x) (sym stands.whole) (in_right (take c ms) (there i)))

  many : used ≡ suc (length (take c ms)) + length (drop (suc c) ms)
  many = st.count ∙ ap length stands.whole ∙ omega (arith, length-append (take c ms) (p ∷ drop (suc c) ms))

  abbrev holds : List ℕ
  holds = holding (take c ms) p (drop (suc c) ms) (drop (message_size * length ms) pool) zb zp za

  pool_is : pool ≡ holds
  pool_is =
      sym (take-append-drop (message_size * length ms) pool)
      ∙ ap (λ l. l ++ drop (message_size * length ms) pool)
      (st.front ∙ ap encode_all stands.whole ∙ encode_append (take c ms) (p ∷ drop (suc c) ms) ∙ ap (λ l. encode_all (take c ms) ++ l) (encode_all_more p (drop (suc c) ms)))
      ∙ append_assoc (encode_all (take c ms)) (encode p.kind p.message ++ encode_all (drop (suc c) ms)) (drop (message_size * length ms) pool)
      ∙ ap (λ l. encode_all (take c ms) ++ l) (append_assoc (encode p.kind p.message) (encode_all (drop (suc c) ms)) (drop (message_size * length ms) pool))

  pub cell_in_use : c < used
  cell_in_use = omega (arith, many, stands.many)

  pub cell_bytes : cell_of pool c ≡ encode p.kind p.message
  cell_bytes =
      ap (λ l. cell_of l c) pool_is ∙ ap (cell_of holds) (sym stands.many) ∙ cell_holds (take c ms) p (drop (suc c) ms) (drop (message_size * length ms) pool) zb zp za

  -- what a delivery leaves in use
  pub used_after : (ps : List Packet) → used - 1 + length ps ≡ length (cells.without ms c ++ ps)
  used_after ps = omega (arith, many, length-append (cells.without ms c) ps, length-append (take c ms) (drop (suc c) ms))

  pub put-stored : (ps : List Packet) → AllSized ps → length (cells.without ms c ++ ps) ≤ pool_cells → Stored (cells.without ms c ++ ps) (used - 1 + length ps) (pool_after used c ps pool)
  put-stored ps zs few =
      subst (Stored (cells.without ms c ++ ps) (used - 1 + length ps)) (sym is)
      (front_stored (cells.without ms c ++ ps) pool (every_append _ (cells.without ms c) ps (every_append _ (take c ms) (drop (suc c) ms) zb za) zs) few st.room (used - 1 + length ps) (used_after ps))
    where
      is : pool_after used c ps pool ≡ encode_all (cells.without ms c ++ ps) ++ drop (message_size * (used - 1 + length ps)) pool
      is =
          (λ i. pool_after used (sym stands.many i) ps (pool_is i)) ∙ after_holds (take c ms) p (drop (suc c) ms) (drop (message_size * length ms) pool) zb zp za used many ps
          ∙ ap (λ l. encode_all (cells.without ms c ++ ps) ++ drop (message_size * (used - 1 + length ps)) l) (sym pool_is)
