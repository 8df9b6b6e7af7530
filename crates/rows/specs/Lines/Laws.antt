-- Laws of a line's text, as the code writes it: where there is room, names without quotes byte by byte, quotes written twice. Assumes nothing.
use Rattle.std.specs.Prelude.{ℕ, ◌+◌, ◌*◌, ◌-◌, ◌/◌, ◌≤◌, ◌<◌, ◌≡◌, refl, List, [], ◌∷◌, ◌++◌, ltb, leb, eqb, length, get_or, set, take, drop, Some, None, slice_get}
use Rattle.std.proofs.Common.{sym, ap, ◌∙◌, append_assoc, arith, add-one, ltb-true, ltb-false, le-leb, lt-ltb, le-ltb, length-append, length-drop, take-suc, length-take-le}
use Rattle.std.specs.List.{list_all}
use mathlib.Core.Bool.{Bool, true, false, cond, not, ◌&&◌, ◌||◌}
use Rattle.std.proofs.lemmas.Bool.{lt-leb}
use Rattle.std.proofs.lemmas.List.Edits.{sets-eq}
use Rattle.base.specs.Put.{put_at, put_within}
use Rattle.base.specs.Put.Laws.{put_after, put-fits}
use Rattle.rows.specs.Row.{sort_of, is_solid}
use Rattle.rows.specs.Lines.{ordinary, can_end, solid_ends, bare_from, is_bare, twice, doubled, name_text, glyph, tail_text, Line, line_text, written_length, written_into}

-- ---- room

pub room_short : (n room : ℕ) → room < 11 → false ≡ not (ltb room (2 * n + 11))
room_short n room h = rw (lt-ltb room (2 * n + 11) (omega arith))

pub room_half : (n room : ℕ) → 11 ≤ room → leb n ((room - 11) / 2) ≡ not (ltb room (2 * n + 11))
room_half n room h = go (ltb room (2 * n + 11)) refl
  where
    go : (t : Bool) → ltb room (2 * n + 11) ≡ t → leb n ((room - 11) / 2) ≡ not t
    go true e = lt-leb n ((room - 11) / 2) (omega (arith, ltb-true room (2 * n + 11) e))
    go false e = le-leb n ((room - 11) / 2) (omega (arith, ltb-false room (2 * n + 11) e))

pub has_not : (n room : ℕ) → not (ltb room (2 * n + 11)) ≡ false → room < 2 * n + 11
has_not n room e = go (ltb room (2 * n + 11)) refl e
  where
    go : (t : Bool) → ltb room (2 * n + 11) ≡ t → not t ≡ false → room < 2 * n + 11
    go true q f = ltb-true _ _ q
    go false q f = absurd (mathlib.Core.Bool.false≢true (sym f))

pub has_room : (n room : ℕ) → not (ltb room (2 * n + 11)) ≡ true → 2 * n + 11 ≤ room
has_room n room e = go (ltb room (2 * n + 11)) refl e
  where
    go : (t : Bool) → ltb room (2 * n + 11) ≡ t → not t ≡ true → 2 * n + 11 ≤ room
    go true q f = absurd (mathlib.Core.Bool.false≢true f)
    go false q f = ltb-false _ _ q

-- ---- names without quotes

last_ordinary : (b : ℕ) → is_solid (sort_of b) ≡ (ordinary b && true && is_solid (sort_of b))
last_ordinary b = go (eqb b 32) (is_solid (sort_of b))
  where
    go : (p q : Bool) → q ≡ ((p || q) && true && q)
    go true q = refl
    go false true = refl
    go false false = refl

and_assoc : (a b c : Bool) → (a && (b && c)) ≡ (a && b && c)
and_assoc true b c = refl
and_assoc false b c = refl

and_last : (a b c : Bool) → (a && (b && c)) ≡ (a && c && b)
and_last true true true = refl
and_last true true false = refl
and_last true false true = refl
and_last true false false = refl
and_last false b c = refl

-- all bytes are ordinary, and the last can stand at an end
bare_all : (b : ℕ) (l : List ℕ) → bare_from b l ≡ (list_all ordinary (b ∷ l) && can_end (slice_get (b ∷ l) (length l)))
unfolding bare_from
bare_all b [] = last_ordinary b
bare_all b (c ∷ l) = rw (bare_all c l) (and_assoc (ordinary b) (list_all ordinary (c ∷ l)) (can_end (slice_get (c ∷ l) (length l))))

pub bare_ends : (l : List ℕ) → is_bare l ≡ (solid_ends l && list_all ordinary l)
unfolding is_bare
bare_ends [] = refl
bare_ends (b ∷ l) =
    let n : length (b ∷ l) - 1 ≡ length l = omega arith in
    rw (n, bare_all b l) (and_last (is_solid (sort_of b)) (list_all ordinary (b ∷ l)) (can_end (slice_get (b ∷ l) (length l))))

-- ---- quotes written twice

doubled_append : (a b : List ℕ) → doubled (a ++ b) ≡ doubled a ++ doubled b
unfolding doubled
doubled_append [] b = refl
doubled_append (x ∷ a) b = rw (doubled_append a b) (sym (append_assoc (twice x) (doubled a) (doubled b)))

doubled_one : (b : ℕ) → doubled (b ∷ []) ≡ twice b
unfolding doubled
doubled_one b = go (eqb b 34)
  where
    go : (t : Bool) → cond t (34 ∷ 34 ∷ []) (b ∷ []) ++ [] ≡ cond t (34 ∷ 34 ∷ []) (b ∷ [])
    go true = refl
    go false = refl

pub doubled_more : (l : List ℕ) (i : ℕ) → i < length l → doubled (take (i + 1) l) ≡ doubled (take i l) ++ twice (get_or l i 0)
doubled_more l i h = rw (add-one i, take-suc l i 0 h, doubled_append (take i l) (get_or l i 0 ∷ []), doubled_one (get_or l i 0))

pub twice_length : (b : ℕ) → length (twice b) ≤ 2
twice_length b = go (eqb b 34)
  where
    go : (t : Bool) → length (cond t (34 ∷ 34 ∷ []) (b ∷ [])) ≤ 2
    go true = omega arith
    go false = omega arith

-- ---- bytes put

pub put_one : (l : List ℕ) (at b : ℕ) → at + 1 ≤ length l → set l at b ≡ put_at l at (b ∷ [])
put_one l at b h = sets-eq (b ∷ []) l at h

pub put_none : (l : List ℕ) (at : ℕ) → at ≤ length l → l ≡ put_at l at []
put_none l at h = sets-eq [] l at (omega arith)

pub put_length : (l m : List ℕ) (at : ℕ) → at + length m ≤ length l → length (put_at l at m) ≡ length l
put_length l m at h =
    let a = length-append (take at l ++ m) (drop (at + length m) l) in
    let b = length-append (take at l) m in
    omega (arith, a, b, length-take-le at l (omega arith), length-drop (at + length m) l)

-- a name in quotes
pub put-quoted : (out d : List ℕ) (at : ℕ) → at ≡ 1 + length d → at + 1 ≤ length out → set (put_at (set out 0 34) 1 d) at 34 ≡ put_at out 0 (34 ∷ d ++ 34 ∷ [])
put-quoted out d at e h =
    let a : set out 0 34 ≡ put_at out 0 (34 ∷ []) = put_one out 0 34 (omega arith) in
    let b : put_at (set out 0 34) 1 d ≡ put_at out 0 (34 ∷ d) = rw a (put_after out (34 ∷ []) d 0 (omega arith)) in
    let n : length (put_at out 0 (34 ∷ d)) ≡ length out = put_length out (34 ∷ d) 0 (omega arith) in
    let f : at ≡ 0 + length (34 ∷ d) = omega arith in
    rw b (put_one (put_at out 0 (34 ∷ d)) at 34 (omega (arith, n)) ∙ rw f (put_after out (34 ∷ d) (34 ∷ []) 0 (omega arith)))

-- a turn of the loop that writes a name, each quote twice, from place 1 on
module _ (name l now : List ℕ) (i at : ℕ) (h : i < length name) (room : 1 ≤ length l) (e : now ≡ put_at l 1 (doubled (take i name))) (p : at ≡ 1 + length (doubled (take i name))) where
  pub turn-place : at + length (twice (get_or name i 0)) ≡ 1 + length (doubled (take (i + 1) name))
  turn-place = rw (doubled_more name i h) (omega (arith, length-append (doubled (take i name)) (twice (get_or name i 0))))

  pub turn-put : put_at now at (twice (get_or name i 0)) ≡ put_at l 1 (doubled (take (i + 1) name))
  turn-put = rw (e, p, doubled_more name i h) (put_after l (doubled (take i name)) (twice (get_or name i 0)) 1 room)

pub doubled_none : doubled [] ≡ []
unfolding doubled
doubled_none = refl

-- ---- what stands behind a name

tail_few : (x d : ℕ) → d < 10 → tail_text x d ≡ 44 ∷ glyph (x / 100) ∷ glyph (x / 10) ∷ 46 ∷ glyph x ∷ 44 ∷ glyph d ∷ 10 ∷ []
tail_few x d h = rw (lt-ltb d 10 h)

tail_many : (x d : ℕ) → 10 ≤ d → tail_text x d ≡ 44 ∷ glyph (x / 100) ∷ glyph (x / 10) ∷ 46 ∷ glyph x ∷ 44 ∷ glyph (d / 10) ∷ glyph d ∷ 10 ∷ []
tail_many x d h = rw (le-ltb d 10 h)

module _ {last : List ℕ} (out : List ℕ) (at x d : ℕ) {a b c g : ℕ} (room : at + 9 ≤ length out) (p : a ≡ glyph (x / 100)) (q : b ≡ glyph (x / 10)) (r : c ≡ glyph x) (w : g ≡ glyph d) where
  put_as : (m : List ℕ) → tail_text x d ≡ m → length m ≤ 9 → last ≡ put_within out at m → (at + length m ≡ at + length (tail_text x d)) × (last ≡ put_at out at (tail_text x d))
  put_as m t h e = (ap (λ (l : List ℕ). at + length l) (sym t), e ∙ put-fits out m at (omega arith) ∙ ap (λ (l : List ℕ). put_at out at l) (sym t))

  pub put_few : d < 10 → last ≡ put_within out at (44 ∷ a ∷ b ∷ 46 ∷ c ∷ 44 ∷ g ∷ 10 ∷ []) → (at + 8 ≡ at + length (tail_text x d)) × (last ≡ put_at out at (tail_text x d))
  put_few h e = put_as (44 ∷ a ∷ b ∷ 46 ∷ c ∷ 44 ∷ g ∷ 10 ∷ []) (tail_few x d h ∙ sym (rw (p, q, r, w))) (omega arith) e

  pub put_many : {f : ℕ} → f ≡ glyph (d / 10) → 10 ≤ d → last ≡ put_within out at (44 ∷ a ∷ b ∷ 46 ∷ c ∷ 44 ∷ f ∷ g ∷ 10 ∷ []) → (at + 9 ≡ at + length (tail_text x d)) × (last ≡ put_at out at (tail_text x d))
  put_many {f} v h e = put_as (44 ∷ a ∷ b ∷ 46 ∷ c ∷ 44 ∷ f ∷ g ∷ 10 ∷ []) (tail_many x d h ∙ sym (rw (p, q, r, v, w))) (omega arith) e

-- ---- names

pub name_bare : (l : List ℕ) → is_bare l ≡ true → name_text l ≡ l
unfolding name_text
name_bare l e = rw e

pub name_quoted : (l : List ℕ) → is_bare l ≡ false → name_text l ≡ 34 ∷ doubled l ++ 34 ∷ []
unfolding name_text
name_quoted l e = rw e

-- ---- a line

abbrev line_of : List ℕ → ℕ → ℕ → Line
line_of name x d = record { name = name; reading = x; lots = d }

pub line_length : (name : List ℕ) (x d at : ℕ) → at ≡ length (name_text name) → at + length (tail_text x d) ≡ length (line_text (line_of name x d))
unfolding line_text
line_length name x d at e = rw e (sym (length-append (name_text name) (tail_text x d)))

pub line_put : (out name : List ℕ) (x d at : ℕ) → at ≡ length (name_text name) → put_at (put_at out 0 (name_text name)) at (tail_text x d) ≡ put_at out 0 (line_text (line_of name x d))
unfolding line_text
line_put out name x d at e = let f : at ≡ 0 + length (name_text name) = omega arith in rw f (put_after out (name_text name) (tail_text x d) 0 (omega arith))

pub not_written : (name out text : List ℕ) → length out < 2 * length name + 11 → (None ≡ written_length name (length out) text) × (out ≡ written_into name out text)
unfolding written_length written_into
not_written name out text h = let t = lt-ltb (length out) (2 * length name + 11) h in (rw t, rw t)

pub written : (name out text : List ℕ) → 2 * length name + 11 ≤ length out → (Some (length text) ≡ written_length name (length out) text) × (put_at out 0 text ≡ written_into name out text)
unfolding written_length written_into
written name out text h = let t = le-ltb (length out) (2 * length name + 11) h in (rw t, rw t)
