-- A sheet: rows of comma separated text, one line of wool each, and the first that can't be used. Assumes nothing.
--     fresh, blank_sheet         a row, and a sheet, before the first byte
--     row_fault                  what is wrong with a whole row
--     ended                     a sheet after a row
--     eaten, kept, sheet_after, names_after    a sheet and its names after more bytes
--     sheet_of, names_of          what a text comes to
use Rattle.std.specs.Prelude.{ℕ, ◌+◌, ◌*◌, ◌-◌, Bool, true, false, cond, not, ◌&&◌, ◌||◌, List, [], ◌∷◌, ltb, leb, eqb, length, get_or, set, replicate, Option, Some, None, is_some}
use Rattle.std.specs.List.{starts_with}
use Rattle.std.specs.Option.{option_or}
use Rattle.rows.specs.declared.Entry.{Entry}
use Rattle.rows.specs.declared.Fault.{Fault}
use Rattle.rows.specs.declared.Fault.TheVariants.{NoName, TooFine, TooCoarse, LotsOutOfRange, MoreRows, NotClosed, NoRows, TooLong}
use Rattle.rows.specs.declared.Phase.TheVariants.{Start}
use Rattle.rows.specs.declared.Row.{Row}
use Rattle.rows.specs.declared.Sheet.{Sheet}
use Rattle.rows.specs.Row.{fed, next, sort_of, in_name, is_start, is_over}
pub mod Laws

-- ---- before the first byte

-- a row whose name begins at this place
abbrev pub fresh : ℕ → Row
fresh at = record { phase = Start; fault = None; digits = false; empty = true; start = at; kept = at; solid = at; whole = 0; tenth = 0; lots = 0 }

abbrev pub blank_sheet : Sheet
blank_sheet = record
    { row = fresh 0; stopped = false; first = true; fault = None; number = 1; count = 0; entries = replicate 16 (record { length = 0; reading = 0; lots = 0 }) }

-- ---- a whole row

-- tenths of a micron
abbrev pub reading : Row → ℕ
reading r = 10 * r.whole + r.tenth

-- what is wrong with the values of a row in its form: no name; a reading below 10.0 microns, or above 40.0; lots not 1 to 16
unfoldable pub value_fault : Row → Option Fault
value_fault r =
    cond (leb r.solid r.start) (Some NoName)
    (cond (ltb (reading r) 100) (Some TooFine)
    (cond (ltb 400 (reading r)) (Some TooCoarse)
    (cond (ltb r.lots 1 || ltb 16 r.lots) (Some LotsOutOfRange) None)))

unfoldable pub row_fault : Row → Option Fault
row_fault r = option_or r.fault (value_fault r)

-- ---- a sheet after a row

abbrev pub with_row : Sheet → Row → Sheet
with_row s r = record s { row = r }

-- the row is passed over
abbrev pub passed : Sheet → Bool → ℕ → Sheet
passed s first at = record s { row = fresh at; first = first; number = s.number + 1 }

-- the row is refused, and nothing more is read
abbrev pub refused : Sheet → Row → Option Fault → Sheet
refused s r fault = record s { row = r; stopped = true; fault = fault }

-- the row is one more line of wool
abbrev pub taken : Sheet → Row → Sheet
taken s r = record s {
  row = fresh r.solid;
  first = false;
  number = s.number + 1;
  count = s.count + 1;
  entries = set s.entries s.count (record { length = r.solid - r.start; reading = reading r; lots = r.lots });
}

-- an empty row is passed over, and a first row of titles, which has no digit behind its name
unfoldable pub ended : Sheet → Row → Sheet
ended s r =
    cond r.empty (passed s s.first r.start)
    (cond (s.first && not r.digits) (passed s false r.start)
    (cond (is_some (row_fault r)) (refused s r (row_fault r))
    (cond (leb 16 s.count) (refused s r (Some MoreRows)) (taken s r))))

-- ---- a sheet after a byte

-- what `desk` prints behind its rows begins with a row that has no name, and `lot` in place of a micron
abbrev pub starts_listing : List ℕ → Bool
starts_listing l = starts_with eqb l (44 ∷ 108 ∷ 111 ∷ 116 ∷ [])

-- r is the row with the byte in it
abbrev pub entered : Sheet → Row → Sheet
entered s r = cond (is_over r.phase) (ended s r) (with_row s r)

-- the sheet after a byte, which begins what is left of the text
unfoldable pub eaten : ℕ → Sheet → List ℕ → Sheet
eaten room s l =
    cond s.stopped s
    (cond (is_start s.row.phase && starts_listing l) (refused s s.row None)
    (entered s (fed room s.row (get_or l 0 0))))

-- names after that byte
unfoldable pub kept : Sheet → ℕ → List ℕ → List ℕ
kept s b names = cond (not s.stopped && in_name (next s.row.phase (sort_of b))) (set names s.row.kept b) names

-- both after all bytes of a text
unfoldable pub sheet_after : ℕ → Sheet → List ℕ → Sheet
sheet_after room s [] = s
sheet_after room s (b ∷ text) = sheet_after room (eaten room s (b ∷ text)) text

unfoldable pub names_after : Sheet → List ℕ → List ℕ → List ℕ
names_after s [] names = names
names_after s (b ∷ text) names = names_after (eaten (length names) s (b ∷ text)) text (kept s b names)

-- ---- what a text comes to

-- a last line feed may be missing; a row that is open still has quotes that nothing closes
unfoldable pub closed_by : Sheet → Sheet
closed_by s =
    cond (is_some s.fault) s
    (cond (not (is_start s.row.phase)) (refused s s.row (Some NotClosed))
    (cond (eqb s.count 0) (refused s s.row (Some NoRows)) s))

-- a text longer than the room for names is not read
unfoldable pub sheet_of : ℕ → List ℕ → Sheet
sheet_of room text =
    cond (ltb room (length text)) (refused blank_sheet (fresh 0) (Some TooLong))
    (closed_by (eaten room (sheet_after room blank_sheet text) (10 ∷ [])))

unfoldable pub names_of : List ℕ → List ℕ → List ℕ
names_of text names = cond (ltb (length names) (length text)) names (names_after blank_sheet text names)
