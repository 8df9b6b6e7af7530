-- Laws of a message's bytes: how long they are, and that fields laid one after the other over zeros make them.
--     length_body, length_encode     62 and 64
--     fields_laid, sum_laid          the fields laid over zeros make the body, and the checksum goes behind it
--     put-fits, put_short            into a lent buffer
-- Assumes nothing.
use Rattle.std.specs.Prelude.{ℕ, ◌+◌, ◌≤◌, ◌<◌, Bool, List, [], ◌∷◌, ◌++◌, ◌≡◌, refl, length, drop, replicate}
use Rattle.std.proofs.Math.Bool.{cond}
use Rattle.std.proofs.Common.{append_assoc, append-nil, ◌∙◌, arith, length-append}
use Rattle.std.proofs.Math.Path.{ap}
use borrow.Author.Tests.{le-leb, lt-leb}
use Rattle.base.specs.Bytes.{le16, le32}
use Rattle.base.specs.Limits.{message_size}
use Rattle.base.specs.Put.{put_at}
use Rattle.base.specs.Put.Laws.{put_next}
use Rattle.message.specs.declared.Kind.{Kind}
use Rattle.message.specs.declared.Message.{Message}
use Rattle.message.specs.Layout.{stamp_byte, values_byte, cost_byte, bound_byte, best_byte, check_byte}
use Rattle.message.specs.Message.{kind_code}
use Rattle.message.specs.Sized.{Sized}
use Rattle.message.specs.Decode.{put_refusal, put_into}
use Rattle.message.specs.Written.{body, encode}

pub length_body : (k : Kind) (m : Message) → Sized m → length (body k m) ≡ check_byte
unfolding body
length_body k m z = simp length-append (omega arith)

pub length_encode : (k : Kind) (m : Message) → Sized m → length (encode k m) ≡ message_size
unfolding encode
length_encode k m z = simp length-append (omega (arith, length_body k m z))

-- ------------------------------------------------------------------------------------------------------------------
-- Bytes laid one after the other.

-- the next field, of k bytes, over what stands after p
field_next : (p q m : List ℕ) (at k : ℕ) → length p ≡ at → length m ≡ k → put_at (p ++ q) at m ≡ p ++ m ++ drop k q
field_next p q m at k e f = put_next p q m at e ∙ rw f

-- bytes 0 to 3
abbrev pub head : ℕ → Message → List ℕ
head kind m = kind ∷ m.sender ∷ m.receiver ∷ 0 ∷ []

-- the fields laid over 64 bytes that hold the head alone make the body and two zeros
pub fields_laid : (k : Kind) (m : Message) → Sized m
    → put_at (put_at (put_at (put_at (put_at (head (kind_code k) m ++ replicate 60 0) stamp_byte m.stamp) values_byte m.values) cost_byte (le32 m.cost)) bound_byte (le32 m.bound)) best_byte m.best ≡ body k m ++ 0 ∷ 0 ∷ []
unfolding body
fields_laid k m z =
    let h0 : List ℕ = head (kind_code k) m in
    let h1 : length (h0 ++ m.stamp) ≡ values_byte = simp length-append (omega arith) in
    let h2 : length (h0 ++ m.stamp ++ m.values) ≡ cost_byte = simp length-append (omega arith) in
    let h3 : length (h0 ++ m.stamp ++ m.values ++ le32 m.cost) ≡ bound_byte = simp length-append (omega arith) in
    let h4 : length (h0 ++ m.stamp ++ m.values ++ le32 m.cost ++ le32 m.bound) ≡ best_byte = simp length-append (omega arith) in
    ap (λ (l : List ℕ). put_at (put_at (put_at (put_at l values_byte m.values) cost_byte (le32 m.cost)) bound_byte (le32 m.bound)) best_byte m.best) (field_next h0 (replicate 60 0) m.stamp stamp_byte 16 refl z.stamp)
    ∙ ap (λ (l : List ℕ). put_at (put_at (put_at l cost_byte (le32 m.cost)) bound_byte (le32 m.bound)) best_byte m.best) (field_next (h0 ++ m.stamp) (replicate 44 0) m.values values_byte 16 h1 z.values)
    ∙ ap (λ (l : List ℕ). put_at (put_at l bound_byte (le32 m.bound)) best_byte m.best) (field_next (h0 ++ m.stamp ++ m.values) (replicate 28 0) (le32 m.cost) cost_byte 4 h2 refl)
    ∙ ap (λ (l : List ℕ). put_at l best_byte m.best) (field_next (h0 ++ m.stamp ++ m.values ++ le32 m.cost) (replicate 24 0) (le32 m.bound) bound_byte 4 h3 refl)
    ∙ field_next (h0 ++ m.stamp ++ m.values ++ le32 m.cost ++ le32 m.bound) (replicate 20 0) m.best best_byte 16 h4 z.best
    ∙ simp append_assoc

-- the two bytes after the body
pub sum_laid : (p : List ℕ) (x : ℕ) → length p ≡ check_byte → put_at (p ++ 0 ∷ 0 ∷ []) check_byte (le16 x) ≡ p ++ le16 x
sum_laid p x e = field_next p (replicate 2 0) (le16 x) check_byte 2 e refl ∙ append-nil (p ++ le16 x)

-- ------------------------------------------------------------------------------------------------------------------
-- Into a lent buffer.

module _ (k : Kind) (m : Message) (l : List ℕ) (at : ℕ) where
  pub put-fits : at + message_size ≤ length l → (put_refusal (length l) at ≡ 0) × (put_into k m l at ≡ put_at l at (encode k m))
  unfolding put_refusal put_into
  put-fits h = let t = le-leb (at + message_size) (length l) h in (ap (λ (b : Bool). cond {A = ℕ} b 0 13) t, ap (λ (b : Bool). cond b (put_at l at (encode k m)) l) t)

  pub put_short : length l < at + message_size → (put_refusal (length l) at ≡ 13) × (put_into k m l at ≡ l)
  unfolding put_refusal put_into
  put_short h = let t = lt-leb (at + message_size) (length l) h in (ap (λ (b : Bool). cond {A = ℕ} b 0 13) t, ap (λ (b : Bool). cond b (put_at l at (encode k m)) l) t)
