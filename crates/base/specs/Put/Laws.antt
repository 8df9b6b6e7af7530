-- Laws of bytes put into a buffer: where they fit, one behind the other, a turn of the loop that writes them.
-- Assumes nothing.
use Rattle.std.specs.Prelude.{ℕ, suc, ◌+◌, ◌≤◌, ◌<◌, List, [], ◌∷◌, ◌++◌, ◌≡◌, length, get_or, set, take, drop}
use Rattle.std.proofs.Common.{add_assoc, add-one, arith, append_assoc, sym, ◌∙◌, le-leb, length-append, take_at, take-suc, drop-cons, drop-drop, length-take-le}
use Rattle.std.proofs.lemmas.Bool.{lt-leb}
use Rattle.std.proofs.Math.Seq.{take-length, drop-append-add, paste, paste-suc}
use Rattle.std.proofs.lemmas.List.{set_at}
use Rattle.std.proofs.lemmas.List.Edits.{sets-eq}
use Rattle.base.specs.Put.{put_at, put_within}

pub put-fits : (l m : List ℕ) (at : ℕ) → at + length m ≤ length l → put_within l at m ≡ put_at l at m
put-fits l m at h = rw (le-leb (at + length m) (length l) h)

pub put_lost : (l m : List ℕ) (at : ℕ) → length l < at + length m → put_within l at m ≡ l
put_lost l m at h = rw (lt-leb (at + length m) (length l) h)

-- written behind p
pub put_next : (p q m : List ℕ) (at : ℕ) → length p ≡ at → put_at (p ++ q) at m ≡ p ++ m ++ drop (length m) q
put_next p q m at e = rw (take_at p q at e, ← e, drop-append-add p q (length m))

-- written behind g, which stands in front of what was there
pub put_behind : (g w l : List ℕ) (at : ℕ) → at ≡ length g → put_at (g ++ drop (length g) l) at w ≡ (g ++ w) ++ drop (length (g ++ w)) l
put_behind g w l at e = put_next g (drop (length g) l) w at (sym e) ∙ rw (drop-drop (length w) (length g) l, length-append g w)

-- written behind g, which stands at a place
pub put_after : (l g w : List ℕ) (at : ℕ) → at ≤ length l → put_at (put_at l at g) (at + length g) w ≡ put_at l at (g ++ w)
put_after l g w at h =
    let e : length (take at l ++ g) ≡ at + length g = length-append (take at l) g ∙ rw (length-take-le at l h) in
    put_next (take at l ++ g) (drop (at + length g) l) w (at + length g) e
    ∙ rw (drop-drop (length w) (at + length g) l, append_assoc (take at l) g w, length-append g w, add_assoc at (length g) (length w))

-- two bytes
pub put_two : (l : List ℕ) (at a b : ℕ) → at + 2 ≤ length l → set (set l at a) (at + 1) b ≡ put_at l at (a ∷ b ∷ [])
put_two l at a b h = rw (add-one at) (sets-eq (a ∷ b ∷ []) l at h)

-- a part of k bytes at place `at`, lent and given back as m
pub put-part : (l m : List ℕ) (at k : ℕ) → k ≡ length m → take at l ++ (m ++ drop k (drop at l)) ≡ put_at l at m
put-part l m at k e = rw (drop-drop k at l, e) (sym (append_assoc (take at l) m (drop (at + length m) l)))

-- a turn of a loop that writes m at place `at`, and its end: `paste l at m i` has the first i bytes written
pub paste_more : (l : List ℕ) (at : ℕ) (m : List ℕ) (i : ℕ) → at + i < length l → i < length m → set (paste l at m i) (at + i) (get_or m i 0) ≡ paste l at m (i + 1)
paste_more l at m i h b = rw add-one (paste-suc l at m i 0 h b)

pub put_end : (l m : List ℕ) (at i : ℕ) → i ≡ length m → paste l at m i ≡ put_at l at m
put_end l m at i e = rw (e, take-length m)

-- the first k bytes of m
pub put_first : (l m : List ℕ) (at i k : ℕ) → i ≡ k → k ≤ length m → at + k ≤ length l → put_within l at (take i m) ≡ paste l at m k
put_first l m at i k e h f =
    let n : length (take i m) ≡ k = length-take-le i m (omega arith) ∙ e in
    put-fits l (take i m) at (omega arith) ∙ rw (n, e)

-- a turn of a loop that copies s to the front of t
pub copy_more : (i : ℕ) (s t : List ℕ) → i < length s → i < length t → set (take i s ++ drop i t) i (get_or s i 0) ≡ take (i + 1) s ++ drop (i + 1) t
copy_more i s t hs ht =
    let e : length (take i s) ≡ i = length-take-le i s (omega arith) in
    rw (drop-cons t i 0 ht, set_at (take i s) (get_or t i 0) (drop (suc i) t) (get_or s i 0) i e, add-one, take-suc s i 0 hs, append_assoc)
