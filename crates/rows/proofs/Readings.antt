-- What a table is made of: a turn of the loop that lays readings one behind the other, with one more they are those of one entry more; and the lots,
-- told place by place. Assumes nothing.
use Rattle.std.specs.Prelude.{ℕ, suc, ◌+◌, ◌*◌, ◌≤◌, ◌<◌, ◌≡◌, refl, List, [], ◌∷◌, ◌++◌, length, take, drop, get_or}
use Rattle.std.proofs.Common.{arith, sym, ap, ◌∙◌, add-one, take-suc, length-take-le, length-append, length-drop}
use Rattle.base.specs.{Bytes.le16, Put.put_at, Put.put_within}
use Rattle.base.specs.Put.Laws.{put-fits, put_behind}
use Rattle.rows.specs.declared.Entry.{Entry}
use Rattle.rows.specs.Lines.{readings_in, lots_in}

readings_length : (l : List Entry) → length (readings_in l) ≡ 2 * length l
readings_length [] = refl
readings_length (e ∷ l) = omega (arith, readings_length l)

readings_join : (l m : List Entry) → readings_in (l ++ m) ≡ readings_in l ++ readings_in m
readings_join [] m = refl
readings_join (e ∷ l) m = rw (readings_join l m)

module _ (l : List Entry) (k : ℕ) (e : Entry) (z : List ℕ) (h : k < length l) (room : 2 * length l ≤ length z) where
  abbrev pub passed : List ℕ
  passed = readings_in (take k l)

  passed_length : length passed ≡ 2 * k
  passed_length = omega (arith, readings_length (take k l), length-take-le k l (omega (arith, h)))

  one_more : passed ++ le16 (get_or l k e).reading ≡ readings_in (take (k + 1) l)
  one_more = sym (rw (add-one k, take-suc l k e h) (readings_join (take k l) (get_or l k e ∷ [])))

  pub readings_more : put_within (passed ++ drop (2 * k) z) (2 * k) (le16 (get_or l k e).reading) ≡ readings_in (take (k + 1) l) ++ drop (2 * (k + 1)) z
  readings_more =
      put-fits (passed ++ drop (2 * k) z) (le16 (get_or l k e).reading) (2 * k) fits
      ∙ ap (λ (n : ℕ). put_at (passed ++ drop n z) (2 * k) (le16 (get_or l k e).reading)) (sym passed_length)
      ∙ put_behind passed (le16 (get_or l k e).reading) z (2 * k) (sym passed_length)
      ∙ rw one_more (ap (λ (n : ℕ). readings_in (take (k + 1) l) ++ drop n z) (readings_length (take (k + 1) l) ∙ ap (λ (n : ℕ). 2 * n) (length-take-le (k + 1) l (omega (arith, h)))))
    where
      fits : 2 * k + 2 ≤ length (passed ++ drop (2 * k) z)
      fits = rw (length-append passed (drop (2 * k) z), passed_length, length-drop (2 * k) z) (omega (arith, h, room))

-- what has the lots of each entry at its place is the lots of all
pub lots_each : (d : Entry) (l : List Entry) (m : List ℕ) → length m ≡ length l → ((k : ℕ) → k < length l → get_or m k 0 ≡ (get_or l k d).lots) → m ≡ lots_in l
lots_each d [] [] long each = refl
lots_each d [] (x ∷ m) long each = absurd (omega (arith, long))
lots_each d (e ∷ l) [] long each = absurd (omega (arith, long))
lots_each d (e ∷ l) (x ∷ m) long each = rw (each 0 (omega arith), lots_each d l m (omega (arith, long)) (λ k h. each (suc k) (omega (arith, h)))) refl
