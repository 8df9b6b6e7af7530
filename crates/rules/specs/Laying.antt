-- Messages laid one after the other: what the sending code asks and ensures, and the laws of `laid` that it goes by.
--     Placed, Room, Wide                   a unit's number; the buffer holds 16 messages; each message of a list is 64 bytes
-- Assumes nothing.
use Prim.Native.Nat.{ℕ, zero, suc, ◌+◌, ◌*◌, ◌-◌, ◌≤◌}
use Rattle.std.specs.Prelude.{◌≡◌, refl, Bool, true, false, List, [], ◌∷◌, ◌++◌, eqb, length, take, drop}
use Rattle.std.proofs.Common.{sym, ap, ◌∙◌, append_assoc, append-nil, arith, add-one, zero-add, length-append, take_at, drop_at, drop-drop, length-take-le, eqb-true}
use Rattle.std.proofs.Math.Seq.{paste-zero}
use Rattle.std.proofs.lemmas.Bool.{eqb-false}
use Rattle.base.specs.Limits.{message_size, sending_size}
use Rattle.costs.specs.declared.Seat.{Seat}
use Rattle.message.specs.declared.Message.{Message}
use Rattle.message.specs.declared.Kind.{Kind}
use Rattle.message.specs.declared.Kind.TheVariants.{Cpa, Request, Estimate, Solution, Stop}
use Rattle.message.specs.Message.{Packet}
use Rattle.message.specs.Sized.{Sized}
use Rattle.base.specs.Put.{put_at}
use Rattle.message.specs.Decode.{put_into}
use Rattle.message.specs.Written.{encode}
use Rattle.message.specs.EncodeLaws.{length_encode, put-fits}
use Rattle.rules.specs.declared.Sending.{Sending}
use Rattle.rules.specs.declared.Plan.{Plan}
use Rattle.rules.specs.declared.Plan.TheVariants.{Nothing, Forward, Back, Reply}
use Rattle.rules.specs.Laws.Packets.{each_length}
use Rattle.rules.specs.Send.{packet, with_receiver, sent_to, without_bound, bound_only, each, hand_back, solutions, by_plan, packets, encode_all, laid}

-- the number of one of at most 16 units
pub record Placed (seat : Seat) : Type 0 where
  pub first : 1 ≤ seat.own
  pub last : seat.own ≤ seat.n
  pub units : seat.n ≤ 16

-- the same, and a buffer for 16 messages
pub record Room (seat : Seat) (out : List ℕ) : Type 0 where
  pub first : 1 ≤ seat.own
  pub last : seat.own ≤ seat.n
  pub units : seat.n ≤ 16
  pub bytes : sending_size ≤ length out

-- ---- each message is 64 bytes

abbrev pub Wide : List Packet → Type 0
Wide ps = length (encode_all ps) ≡ message_size * length ps

pub encode_append : (ps qs : List Packet) → encode_all (ps ++ qs) ≡ encode_all ps ++ encode_all qs
unfolding encode_all
encode_append [] qs = refl
encode_append (p ∷ ps) qs = ap (λ (l : List ℕ). encode p.kind p.message ++ l) (encode_append ps qs) ∙ sym (append_assoc (encode p.kind p.message) (encode_all ps) (encode_all qs))

pub wide_one : (k : Kind) (m : Message) → Sized m → Wide (packet k m ∷ [])
unfolding encode_all
wide_one k m z = rw (append-nil (encode k m)) (length_encode k m z)

pub wide_append : (ps qs : List Packet) → Wide ps → Wide qs → Wide (ps ++ qs)
wide_append ps qs p q = rw (encode_append ps qs, length-append (encode_all ps) (encode_all qs), length-append ps qs) (omega (arith, p, q))

-- ---- to several units

pub each_more : (g : ℕ → Packet) (lo i : ℕ) → each g lo (suc i) ≡ each g lo i ++ g (lo + i) ∷ []
unfolding each
each_more g lo zero = ap (λ (j : ℕ). g j ∷ []) (omega arith)
each_more g lo (suc i) = ap (λ (l : List Packet). g lo ∷ l) (each_more g (suc lo) i ∙ ap (λ (j : ℕ). each g (suc lo) i ++ g j ∷ []) (omega arith))

pub wide_each : (k : Kind) (m : Message) → Sized m → (lo c : ℕ) → Wide (each (sent_to k m) lo c)
unfolding each encode_all
wide_each k m z lo zero = refl
wide_each k m z lo (suc c) =
    let p : Message = with_receiver (suc lo) m in
    let s : Sized p = record { stamp = z.stamp; values = z.values; best = z.best; cost = z.cost; bound = z.bound } in
    rw (length-append (encode k p) (encode_all (each (sent_to k m) (suc lo) c)), length_encode k p s) (omega (arith, wide_each k m z (suc lo) c))

-- ---- in the buffer

-- bytes put right behind those just put
pub put_more : (l a b : List ℕ) (at k : ℕ) → length a ≡ k → at + k ≤ length l → put_at (put_at l at a) (at + k) b ≡ put_at l at (a ++ b)
put_more l a b at k e h =
    let p : List ℕ = take at l ++ a in
    let q : List ℕ = drop (at + length a) l in
    let len : length p ≡ at + k = length-append (take at l) a ∙ omega (arith, length-take-le at l (omega arith), e) in
    let n : at + length a + length b ≡ at + length (a ++ b) = omega (arith, length-append a b) in
    let f : drop (at + k + length b) (p ++ q) ≡ drop (at + length (a ++ b)) l =
    sym (drop-drop (length b) (at + k) (p ++ q)) ∙ ap (λ (r : List ℕ). drop (length b) r) (drop_at p q (at + k) len) ∙ drop-drop (length b) (at + length a) l
    ∙ ap (λ (j : ℕ). drop j l) n in
    rw (take_at p q (at + k) len, f, append_assoc (take at l) a b)

pub laid-first : (ps : List Packet) (l : List ℕ) → Wide ps → put_at l 0 (encode_all ps) ≡ laid ps l
unfolding laid
laid-first ps l p = rw (p, zero-add (message_size * length ps))

-- messages put behind those laid are laid with them
pub laid_more : (ps qs : List Packet) (l : List ℕ) → Wide ps → Wide qs → message_size * length ps ≤ length l → put_at (laid ps l) (message_size * length ps) (encode_all qs) ≡ laid (ps ++ qs) l
laid_more ps qs l p q h =
    let at : 0 + message_size * length ps ≡ message_size * length ps = omega arith in
    rw (← laid-first ps l p, ← laid-first (ps ++ qs) l (wide_append ps qs p q), encode_append ps qs)
    (rw at at (put_more l (encode_all ps) (encode_all qs) 0 (message_size * length ps) p (omega arith)))

pub laid_none : (l : List ℕ) → laid [] l ≡ l
unfolding laid encode_all
laid_none l = refl

pub spread_none : (k : Kind) (m : Message) (l : List ℕ) (lo sent : ℕ) → l ≡ put_at l (message_size * sent) (encode_all (each (sent_to k m) lo 0))
unfolding each encode_all
spread_none k m l lo sent = paste-zero l (message_size * sent) []

-- the next of several messages is put behind those put
pub spread_more : (k : Kind) (m : Message) → Sized m → (l r : List ℕ) (lo sent i : ℕ) → r ≡ put_at l (message_size * sent) (encode_all (each (sent_to k m) lo i)) → length r ≡ length l → message_size * (sent + (i + 1)) ≤ length l
    → put_into k (with_receiver (lo + i + 1) m) r (message_size * (sent + i)) ≡ put_at l (message_size * sent) (encode_all (each (sent_to k m) lo (i + 1)))
unfolding encode_all
spread_more k m z l r lo sent i e len h =
    let g : ℕ → Packet = sent_to k m in
    let at : message_size * (sent + i) ≡ message_size * sent + message_size * i = omega arith in
    let w : length (encode_all (each g lo i)) ≡ message_size * i = wide_each k m z lo i ∙ ap (λ (c : ℕ). message_size * c) (each_length g lo i) in
    let one : encode_all (g (lo + i) ∷ []) ≡ encode k (with_receiver (lo + i + 1) m) = rw add-one (append-nil (encode k (with_receiver (suc (lo + i)) m))) in
    let b : encode_all (each g lo (i + 1)) ≡ encode_all (each g lo i) ++ encode k (with_receiver (lo + i + 1) m) =
    ap (λ (c : ℕ). encode_all (each g lo c)) (add-one i) ∙ ap encode_all (each_more g lo i) ∙ encode_append (each g lo i) (g (lo + i) ∷ []) ∙ ap (λ (x : List ℕ). encode_all (each g lo i) ++ x) one in
    rw ((put-fits k (with_receiver (lo + i + 1) m) r (message_size * (sent + i)) (omega (arith, len, h))).1, e, at, b)
    (put_more l (encode_all (each g lo i)) (encode k (with_receiver (lo + i + 1) m)) (message_size * sent) (message_size * i) w (omega arith))

-- several messages put behind those laid
pub spread_laid : (k : Kind) (m : Message) → Sized m → (ps : List Packet) (l : List ℕ) (lo c sent : ℕ) → Wide ps → sent ≡ length ps → message_size * sent ≤ length l
    → put_at (laid ps l) (message_size * sent) (encode_all (each (sent_to k m) lo c)) ≡ laid (ps ++ each (sent_to k m) lo c) l
spread_laid k m z ps l lo c sent p e h = rw e (laid_more ps (each (sent_to k m) lo c) l p (wide_each k m z lo c) (omega (arith, e)))

pub spread_first : (k : Kind) (m : Message) → Sized m → (l : List ℕ) (lo c : ℕ) → put_at l (message_size * 0) (encode_all (each (sent_to k m) lo c)) ≡ laid (each (sent_to k m) lo c) l
spread_first k m z l lo c = laid-first (each (sent_to k m) lo c) l (wide_each k m z lo c)

-- ---- the plans

pub bound_sized : (m : Message) → Sized m → Sized (bound_only m)
bound_sized m z = record { stamp = refl; values = refl; best = z.best; cost = omega arith; bound = z.bound }

pub bare-sized : (m : Message) → Sized m → Sized (without_bound m)
bare-sized m z = record { stamp = z.stamp; values = z.values; best = refl; cost = z.cost; bound = omega arith }

module _ (n : ℕ) (m : Message) where
  pub handed_wide : Sized m → (k : ℕ) → Wide (hand_back n k m)
  unfolding each
  handed_wide z zero = wide_each Stop (bound_only m) (bound_sized m z) 1 (n - 1)
  handed_wide z (suc k) = wide_each Cpa m z k 1

module _ (n own : ℕ) (m : Message) (l : List ℕ) (first : 1 ≤ own) (z : Sized m) where
  place : suc (own - 1) ≡ own
  place = omega arith

  pub forward_laid : (b : Bool) (r : List ℕ) (bare : Message) (sent : ℕ) → r ≡ put_at l (message_size * 0) (encode_all (each (sent_to Cpa m) own 1)) → bare ≡ without_bound m → sent ≡ 0 + 1 → message_size ≤ length l
      → put_at r (message_size * sent) (encode_all (each (sent_to Request bare) own (n - own))) ≡ laid (by_plan n (own - 1) Forward b m) l
  unfolding each
  forward_laid b r bare sent e f g h =
      rw (e, f, place, spread_first Cpa m z l own 1) (spread_laid Request (without_bound m) (bare-sized m z) (each (sent_to Cpa m) own 1) l own (n - own) sent (wide_each Cpa m z own 1) g (omega arith))

  pub forward_count : (b : Bool) (sent : ℕ) → sent ≡ 0 + 1 → sent + (n - own) ≡ length (by_plan n (own - 1) Forward b m)
  forward_count b sent e = omega (arith, each_length (sent_to Request (without_bound m)) (suc (own - 1)) (n - suc (own - 1)))

  pub stops_laid : own ≡ 1 → (stop : Message) → stop ≡ bound_only m → put_at l (message_size * 0) (encode_all (each (sent_to Stop stop) 1 (n - 1))) ≡ laid (hand_back n (own - 1) m) l
  stops_laid e stop f = rw (e, f) (spread_first Stop (bound_only m) (bound_sized m z) l 1 (n - 1))

  pub stops_count : own ≡ 1 → 0 + (n - 1) ≡ length (hand_back n (own - 1) m)
  stops_count e = rw e (omega (arith, each_length (sent_to Stop (bound_only m)) 1 (n - 1)))

  later : (own ≡ 1 → ⊥) → own - 1 ≡ suc (own - 2)
  later e = omega arith

  pub back_one_laid : (own ≡ 1 → ⊥) → put_at l (message_size * 0) (encode_all (each (sent_to Cpa m) (own - 2) 1)) ≡ laid (hand_back n (own - 1) m) l
  unfolding each
  back_one_laid e = rw (later e) (spread_first Cpa m z l (own - 2) 1)

  pub back_one_count : (own ≡ 1 → ⊥) → 0 + 1 ≡ length (hand_back n (own - 1) m)
  back_one_count e = rw (later e)

  pub handed_most : own ≤ n → n ≤ 16 → length (hand_back n (own - 1) m) ≤ 16
  handed_most l k = go (eqb own 1) refl
    where
      go : (t : Bool) → eqb own 1 ≡ t → length (hand_back n (own - 1) m) ≤ 16
      go true e = omega (arith, stops_count (eqb-true own 1 e))
      go false e = omega (arith, back_one_count (eqb-false own 1 e))

  module _ (b : Bool) (sent lower : ℕ) (improved : b ≡ true) (e : sent ≡ length (hand_back n (own - 1) m)) (f : lower ≡ sent + (own - 1)) where
    abbrev ps : List Packet
    ps = hand_back n (own - 1) m

    abbrev qs : List Packet
    qs = each (sent_to Solution (bound_only m)) 0 (own - 1)

    abbrev rs : List Packet
    rs = each (sent_to Solution (bound_only m)) own (n - own)

    all : by_plan n (own - 1) Back b m ≡ ps ++ qs ++ rs
    all = rw (improved, place) (sym (append_assoc ps qs rs))

    pub back_laid : (r t : List ℕ) (solution : Message) → solution ≡ bound_only m → r ≡ laid (hand_back n (own - 1) m) l → t ≡ put_at r (message_size * sent) (encode_all (each (sent_to Solution solution) 0 (own - 1)))
        → message_size * lower ≤ length l → put_at t (message_size * lower) (encode_all (each (sent_to Solution solution) own (n - own))) ≡ laid (by_plan n (own - 1) Back b m) l
    back_laid r t solution g h i room =
        let y : Sized (bound_only m) = bound_sized m z in
        let w : Wide ps = handed_wide n m z (own - 1) in
        let lo : put_at (laid ps l) (message_size * sent) (encode_all qs) ≡ laid (ps ++ qs) l = spread_laid Solution (bound_only m) y ps l 0 (own - 1) sent w e (omega arith) in
        let c : lower ≡ length (ps ++ qs) = rw (length-append ps qs, each_length (sent_to Solution (bound_only m)) 0 (own - 1), ← e) f in
        rw (all, i, g, h, lo) (spread_laid Solution (bound_only m) y (ps ++ qs) l own (n - own) lower (wide_append ps qs w (wide_each Solution (bound_only m) y 0 (own - 1))) c room)

    pub back_count : lower + (n - own) ≡ length (by_plan n (own - 1) Back b m)
    back_count =
        rw (all, length-append (ps ++ qs) rs, length-append ps qs, each_length (sent_to Solution (bound_only m)) 0 (own - 1), each_length (sent_to Solution (bound_only m)) own (n - own)) (omega (arith, e, f))

-- nothing improved: only what is handed back
pub back_quiet : (n k : ℕ) (m : Message) (b : Bool) (r : ℕ) (l t : List ℕ) → b ≡ false → (r ≡ length (hand_back n k m)) × (t ≡ laid (hand_back n k m) l)
    → (r ≡ length (by_plan n k Back b m)) × (t ≡ laid (by_plan n k Back b m) l)
back_quiet n k m b r l t e h = rw (e, append-nil (hand_back n k m)) h

pub reply-laid : (m : Message) (l : List ℕ) → Sized m → message_size ≤ length l → put_into Estimate m l 0 ≡ laid (packet Estimate m ∷ []) l
unfolding encode_all
reply-laid m l z h = (put-fits Estimate m l 0 h).1 ∙ rw (← append-nil (encode Estimate m)) (laid-first (packet Estimate m ∷ []) l (wide_one Estimate m z))

-- whatever the plan, each message is 64 bytes
solutions_wide : (n k : ℕ) (b : Bool) (m : Message) → Sized m → Wide (solutions n k b m)
unfolding encode_all
solutions_wide n k true m z =
    let y = bound_sized m z in
    wide_append (each (sent_to Solution (bound_only m)) 0 k) (each (sent_to Solution (bound_only m)) (suc k) (n - suc k)) (wide_each Solution (bound_only m) y 0 k) (wide_each Solution (bound_only m) y (suc k) (n - suc k))
solutions_wide n k false m z = refl

plan_wide : (n k : ℕ) (p : Plan) (b : Bool) (m : Message) → Sized m → Wide (by_plan n k p b m)
unfolding encode_all each
plan_wide n k Nothing b m z = refl
plan_wide n k Forward b m z =
    wide_append (each (sent_to Cpa m) (suc k) 1) (each (sent_to Request (without_bound m)) (suc k) (n - suc k)) (wide_each Cpa m z (suc k) 1) (wide_each Request (without_bound m) (bare-sized m z) (suc k) (n - suc k))
plan_wide n k Back b m z = wide_append (hand_back n k m) (solutions n k b m) (handed_wide n m z k) (solutions_wide n k b m z)
plan_wide n k Reply b m z = wide_one Estimate m z

pub packets_wide : (n k : ℕ) (s : Sending) → Sized s.message → Wide (packets n k s)
unfolding packets
packets_wide n k s z = plan_wide n k s.plan s.improved s.message z

-- how many there are by the plan
pub count_by : (n k : ℕ) (s : Sending) (p : Plan) (r : ℕ) → s.plan ≡ p → r ≡ length (by_plan n k p s.improved s.message) → r ≡ length (packets n k s)
unfolding packets
count_by n k s p r e h = rw e h

-- what is sent goes by the plan
pub sent_by_lem : (n k : ℕ) (s : Sending) (p : Plan) (r : ℕ) (l t : List ℕ) → s.plan ≡ p → (r ≡ length (by_plan n k p s.improved s.message)) × (t ≡ laid (by_plan n k p s.improved s.message) l)
    → (r ≡ length (packets n k s)) × (t ≡ laid (packets n k s) l)
unfolding packets
sent_by_lem n k s p r l t e h = rw e h

pub fits_by : (n k : ℕ) (s : Sending) (p : Plan) (room : ℕ) → s.plan ≡ p → message_size * length (packets n k s) ≤ room → message_size * length (by_plan n k p s.improved s.message) ≤ room
unfolding packets
fits_by n k s p room e h = rw (← e) h
