-- One row of comma separated text, byte by byte: a name, its micron, the number of lots. A row goes through phases; which comes next is told by the
-- byte's sort (`next`), and what the byte does by the phase that it leads to. Assumes nothing.
--     sort_of                       sorts of bytes
--     next                          which phase comes next
--     spoiled, missing, fault_by    what is wrong where a row leaves its form, or ends early
--     fed                          a row after one more byte
use Rattle.std.specs.Prelude.{ℕ, ◌+◌, ◌*◌, ◌-◌, Bool, true, false, cond, ◌&&◌, ◌||◌, ltb, leb, eqb, Option, Some, None}
use Rattle.std.specs.Option.{option_or}
use Rattle.rows.specs.declared.Row.{Row}
use Rattle.rows.specs.declared.Phase.{Phase}
use Rattle.rows.specs.declared.Phase.TheVariants.{Start, Lead, Bare, Opened, Quoted, Inner, Closed, Micron, Whole, Point, Tenth, Measured, Lots, Count, After, Odd, OddQuoted, Over}
use Rattle.rows.specs.declared.Fault.{Fault}
use Rattle.rows.specs.declared.Fault.TheVariants.{NoName, NoComma, NoMicron, NoLots, MoreFields}
use Rattle.rows.specs.declared.scan.Sort.{Sort}
use Rattle.rows.specs.declared.scan.Sort.TheVariants.{Blank, Feed, Comma, Quote, Digit, Dot, Other}

-- ---- sorts of bytes

abbrev pub is_digit : ℕ → Bool
is_digit b = leb 48 b && leb b 57

-- a space, a tab, a carriage return; a line feed; a comma; a quote; a point; a digit; any other
unfoldable pub sort_of : ℕ → Sort
sort_of b =
    cond (eqb b 32) Blank
    (cond (eqb b 9) Blank
    (cond (eqb b 13) Blank
    (cond (eqb b 10) Feed
    (cond (eqb b 44) Comma
    (cond (eqb b 34) Quote
    (cond (eqb b 46) Dot
    (cond (is_digit b) Digit Other)))))))

-- bytes that can stand at either end of a name without quotes
abbrev pub is_solid : Sort → Bool
is_solid Digit = true
is_solid Dot = true
is_solid Other = true
is_solid _ = false

abbrev pub is_digit_sort : Sort → Bool
is_digit_sort Digit = true
is_digit_sort _ = false

-- a row that has only such bytes is empty
abbrev pub leaves_empty : Sort → Bool
leaves_empty Blank = true
leaves_empty Feed = true
leaves_empty Comma = true
leaves_empty _ = false

-- ---- phases

-- the phase after a byte
unfoldable pub next : Phase → Sort → Phase
-- within quotes a line feed and a comma are bytes like others
next Opened Quote = Inner
next Opened _ = Quoted
next Quoted Quote = Inner
next Quoted _ = Quoted
next OddQuoted Quote = Odd
next OddQuoted _ = OddQuoted
-- outside them a line feed ends the row
next Over _ = Over
next _ Feed = Over
-- the name
next Start Blank = Lead
next Start Quote = Opened
next Start Digit = Bare
next Start Dot = Bare
next Start Other = Bare
next Lead Blank = Lead
next Lead Quote = Opened
next Lead Digit = Bare
next Lead Dot = Bare
next Lead Other = Bare
next Bare Comma = Micron
next Bare _ = Bare
next Inner Quote = Quoted
next Inner Blank = Closed
next Inner Comma = Micron
next Closed Blank = Closed
next Closed Comma = Micron
-- its micron
next Micron Blank = Micron
next Micron Digit = Whole
next Whole Digit = Whole
next Whole Dot = Point
next Point Digit = Tenth
next Whole Blank = Measured
next Whole Comma = Lots
next Tenth Blank = Measured
next Tenth Comma = Lots
next Measured Blank = Measured
next Measured Comma = Lots
-- the number of lots
next Lots Blank = Lots
next Lots Digit = Count
next Count Digit = Count
next Count Blank = After
next Count Comma = After
next After Blank = After
next After Comma = After
-- the row leaves its form
next _ Quote = OddQuoted
next _ _ = Odd

abbrev pub is_start : Phase → Bool
is_start Start = true
is_start _ = false

abbrev pub is_over : Phase → Bool
is_over Over = true
is_over _ = false

-- the phases whose bytes are the name's
abbrev pub in_name : Phase → Bool
in_name Bare = true
in_name Quoted = true
in_name _ = false

-- the phases behind the name
abbrev pub behind_name : Phase → Bool
behind_name Start = false
behind_name Lead = false
behind_name Bare = false
behind_name Opened = false
behind_name Quoted = false
behind_name Inner = false
behind_name Closed = false
behind_name _ = true

-- ---- faults of a row's form

-- what is wrong where a byte of another sort is wanted in this phase; nothing in one where none can be wrong
abbrev pub spoiled : Phase → Option Fault
spoiled Start = Some NoName
spoiled Lead = Some NoName
spoiled Inner = Some NoComma
spoiled Closed = Some NoComma
spoiled Micron = Some NoMicron
spoiled Whole = Some NoMicron
spoiled Point = Some NoMicron
spoiled Tenth = Some NoMicron
spoiled Measured = Some NoMicron
spoiled Lots = Some NoLots
spoiled Count = Some NoLots
spoiled After = Some MoreFields
spoiled _ = None

-- what is wrong where the row ends in this phase; nothing where it may
abbrev pub missing : Phase → Option Fault
missing Bare = Some NoMicron
missing Inner = Some NoMicron
missing Closed = Some NoMicron
missing Micron = Some NoMicron
missing Point = Some NoMicron
missing Whole = Some NoLots
missing Tenth = Some NoLots
missing Measured = Some NoLots
missing Lots = Some NoLots
missing _ = None

-- what is wrong where this phase leads to that
abbrev pub fault_by : Phase → Phase → Option Fault
fault_by phase Over = missing phase
fault_by phase Odd = spoiled phase
fault_by phase OddQuoted = spoiled phase
fault_by phase _ = None

-- ---- a byte

-- blanks at the end of a name without quotes are not the name's
abbrev pub in_solid : Phase → Sort → Bool
in_solid Quoted _ = true
in_solid Bare Blank = false
in_solid Bare _ = true
in_solid _ _ = false

-- a number with one more digit; of five digits it is too large already
abbrev pub grown : ℕ → ℕ → ℕ
grown x b = cond (ltb x 10000) (10 * x + (b - 48)) x

-- the numbers of a row after a byte, each with one more digit in the phase of its own
abbrev pub whole_after : Phase → ℕ → ℕ → ℕ
whole_after Whole x b = grown x b
whole_after _ x b = x

abbrev pub tenth_after : Phase → ℕ → ℕ → ℕ
tenth_after Tenth x b = b - 48
tenth_after _ x b = x

abbrev pub lots_after : Phase → ℕ → ℕ → ℕ
lots_after Count x b = grown x b
lots_after _ x b = x

-- the place after one more byte of a name, where there is room for so many
abbrev pub placed : ℕ → ℕ → ℕ
placed room at = cond (ltb at room) (at + 1) at

-- a row after the byte b of this sort, which leads to this phase
unfoldable pub fed_by : ℕ → Row → ℕ → Sort → Phase → Row
fed_by room r b sort to = record {
  phase = to;
  fault = option_or r.fault (fault_by r.phase to);
  digits = r.digits || (behind_name to && is_digit_sort sort);
  empty = r.empty && leaves_empty sort;
  start = r.start;
  kept = cond (in_name to) (placed room r.kept) r.kept;
  solid = cond (in_solid to sort) (placed room r.kept) r.solid;
  whole = whole_after to r.whole b;
  tenth = tenth_after to r.tenth b;
  lots = lots_after to r.lots b;
}

-- a row after one more byte, where there is room for so many bytes of names
unfoldable pub fed : ℕ → Row → ℕ → Row
fed room r b = fed_by room r b (sort_of b) (next r.phase (sort_of b))
