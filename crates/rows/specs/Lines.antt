-- Lines of wool: those that a sheet holds, and their text. Assumes nothing.
use Rattle.std.specs.Prelude.{ℕ, ◌+◌, ◌-◌, ◌*◌, ◌/◌, ◌%◌, Bool, false, cond, ◌&&◌, ◌||◌, List, [], ◌∷◌, ◌++◌, ltb, eqb, length, take, drop, slice_get, Option, Some, None, is_none}
use Rattle.base.specs.{Bytes.le16, Put.put_at}
use Rattle.rows.specs.declared.Entry.{Entry}
use Rattle.rows.specs.declared.Sheet.{Sheet}
use Rattle.rows.specs.Row.{sort_of, is_solid}
use Rattle.rows.specs.Sheet.{sheet_of, names_of}
pub mod Laws

-- a line of wool: its name, its mean fibre diameter in tenths of a micron, and for how many lots
pub record Line : Type 0 where
  pub name : List ℕ
  pub reading : ℕ
  pub lots : ℕ

-- ---- lines of a sheet

-- names one behind the other, of these entries
unfoldable pub cut : List Entry → List ℕ → List Line
cut [] names = []
cut (e ∷ entries) names = record { name = take e.length names; reading = e.reading; lots = e.lots } ∷ cut entries (drop e.length names)

unfoldable pub lines_in : Sheet → List ℕ → List Line
lines_in s names = cut (take s.count s.entries) names

-- what a table is made of: the readings of these entries, two bytes each, one behind the other; and for how many lots each
abbrev pub readings_in : List Entry → List ℕ
readings_in [] = []
readings_in (e ∷ entries) = le16 e.reading ++ readings_in entries

abbrev pub lots_in : List Entry → List ℕ
lots_in [] = []
lots_in (e ∷ entries) = e.lots ∷ lots_in entries

-- what a text is read as, its names in this buffer
unfoldable pub lines_of : List ℕ → List ℕ → List Line
lines_of text names = lines_in (sheet_of (length names) text) (names_of text names)

abbrev pub accepted : List ℕ → List ℕ → Bool
accepted text names = is_none (sheet_of (length names) text).fault

-- ---- text of lines

-- bytes that a name without quotes can have: none of a line feed, a comma, a quote, and of blanks only the space, not at either end
abbrev pub ordinary : ℕ → Bool
ordinary b = eqb b 32 || is_solid (sort_of b)

-- a name that is there has a byte at either end, and each can stand there
abbrev pub can_end : Option ℕ → Bool
can_end None = false
can_end (Some b) = is_solid (sort_of b)

abbrev pub solid_ends : List ℕ → Bool
solid_ends l = can_end (slice_get l 0) && can_end (slice_get l (length l - 1))

unfoldable pub bare_from : ℕ → List ℕ → Bool
bare_from b [] = is_solid (sort_of b)
bare_from b (c ∷ l) = ordinary b && bare_from c l

unfoldable pub is_bare : List ℕ → Bool
is_bare [] = false
is_bare (b ∷ l) = is_solid (sort_of b) && bare_from b l

-- a quote in quotes is written twice
abbrev pub twice : ℕ → List ℕ
twice b = cond (eqb b 34) (34 ∷ 34 ∷ []) (b ∷ [])

unfoldable pub doubled : List ℕ → List ℕ
doubled [] = []
doubled (b ∷ l) = twice b ++ doubled l

unfoldable pub name_text : List ℕ → List ℕ
name_text name = cond (is_bare name) name (34 ∷ doubled name ++ 34 ∷ [])

abbrev pub glyph : ℕ → ℕ
glyph d = 48 + d % 10

-- as 19.3
abbrev pub micron_text : ℕ → List ℕ
micron_text x = glyph (x / 100) ∷ glyph (x / 10) ∷ 46 ∷ glyph x ∷ []

abbrev pub lots_text : ℕ → List ℕ
lots_text d = cond (ltb d 10) (glyph d ∷ []) (glyph (d / 10) ∷ glyph d ∷ [])

-- what stands behind the name: micron, lots, each behind a comma, and a line feed
abbrev pub tail_text : ℕ → ℕ → List ℕ
tail_text reading lots = 44 ∷ micron_text reading ++ 44 ∷ lots_text lots ++ 10 ∷ []

unfoldable pub line_text : Line → List ℕ
line_text line = name_text line.name ++ tail_text line.reading line.lots

unfoldable pub text_of : List Line → List ℕ
text_of [] = []
text_of (line ∷ lines) = line_text line ++ text_of lines

-- `name,micron,lot` and a line feed
abbrev pub titles : List ℕ
titles = 110 ∷ 97 ∷ 109 ∷ 101 ∷ 44 ∷ 109 ∷ 105 ∷ 99 ∷ 114 ∷ 111 ∷ 110 ∷ 44 ∷ 108 ∷ 111 ∷ 116 ∷ 10 ∷ []

-- lines as `desk` prints them: a row of titles first, and behind them rows that are no lines of wool, the first of which begins `,lot`
abbrev pub printed : List Line → List ℕ → List ℕ
printed lines rest = titles ++ text_of lines ++ 44 ∷ 108 ∷ 111 ∷ 116 ∷ rest

-- ---- a line's text into a buffer

-- the room that its text never passes
abbrev pub line_room : List ℕ → ℕ
line_room name = 2 * length name + 11

-- the text of this name, or of its line, at the front of a buffer: its length, and what the buffer becomes; none, and as it was, where there is less
-- room
unfoldable pub written_length : List ℕ → ℕ → List ℕ → Option ℕ
written_length name room text = cond (ltb room (line_room name)) None (Some (length text))

unfoldable pub written_into : List ℕ → List ℕ → List ℕ → List ℕ
written_into name out text = cond (ltb (length out) (line_room name)) out (put_at out 0 text)
