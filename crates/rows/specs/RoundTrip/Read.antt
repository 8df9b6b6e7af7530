-- Good lines read from their text: at a row's start (`Ready`) a line's text leads to a row's start again, with that line behind the others; then
-- lines, one after another; and what may come behind them, nothing or a listing. Assumes nothing.
--     Ready, line_ready, Reads, lines_read    lines
--     Ends, ends_here, ends_listing           what comes behind them
use Rattle.std.specs.Prelude.{ℕ, ◌+◌, ◌-◌, ◌≤◌, ◌<◌, ◌≡◌, refl, Bool, true, false, cond, not, ◌&&◌, List, [], ◌∷◌, ◌++◌, eqb, length, set, take, drop, Some, None, is_some}
use Rattle.std.proofs.Common.{sym, ap, subst, ◌∙◌, append_assoc, append-nil, arith, ne_eqb, length-append, length-take-le, take_at, drop_at}
use Rattle.std.proofs.lemmas.Bool.{false≢true}
use Rattle.std.proofs.lemmas.List.Edits.{sets, sets-eq}
use Rattle.std.proofs.Math.Seq.{length-sets}
use Rattle.base.specs.Members.{Every, here, there}
use Rattle.rows.specs.declared.Fault.TheVariants.{NotClosed, NoRows}
use Rattle.rows.specs.declared.Row.{Row}
use Rattle.rows.specs.declared.Sheet.{Sheet}
use Rattle.rows.specs.Cases.{by_test}
use Rattle.rows.specs.Row.{sort_of, next, in_name, is_start, fed, fed_by}
use Rattle.rows.specs.declared.scan.Sort.TheVariants.{Comma}
use Rattle.rows.specs.Sheet.{fresh, blank_sheet, reading, passed, refused, taken, ended, entered, eaten, kept, sheet_after, names_after, closed_by}
use Rattle.rows.specs.Sheet.Laws.{eaten-row}
use Rattle.rows.specs.Lines.{Line, lines_in, cut, is_bare, doubled, name_text, tail_text, line_text, text_of}
use Rattle.rows.specs.RoundTrip.Held.{Good, Laid, line_by, lines_count, lines_same, taken_lines, taken-laid}
use Rattle.rows.specs.RoundTrip.Scan.{Leads, leads_join, row_of, row-reading, line_leads}

-- ---- a name is no longer than its text

doubled_longer : (l : List ℕ) → length l ≤ length (doubled l)
unfolding doubled
doubled_longer [] = omega arith
doubled_longer (b ∷ l) = go (eqb b 34) (doubled_longer l)
  where
    go : (t : Bool) → length l ≤ length (doubled l) → length (b ∷ l) ≤ length (cond t (34 ∷ 34 ∷ []) (b ∷ []) ++ doubled l)
    go true h = omega (arith, h)
    go false h = omega (arith, h)

name_longer : (name : List ℕ) → length name ≤ length (name_text name)
unfolding name_text
name_longer name = go (is_bare name)
  where
    go : (t : Bool) → length name ≤ length (cond t name (34 ∷ doubled name ++ 34 ∷ []))
    go true = omega arith
    go false = omega (arith, length-append (34 ∷ doubled name) (34 ∷ []), doubled_longer name)

line_longer : (line : Line) → length line.name ≤ length (line_text line)
unfolding line_text
line_longer line = omega (arith, length-append (name_text line.name) (tail_text line.reading line.lots), name_longer line.name)

-- ---- a sheet at a row's start, which holds these lines

pub record Ready (room at : ℕ) (s : Sheet) (names : List ℕ) (lines : List Line) : Type 0 where
  pub laid : Laid s
  pub row : s.row ≡ fresh at
  pub free : s.stopped ≡ false
  pub sound : s.fault ≡ None
  pub long : length names ≡ room
  pub held : lines_in s names ≡ lines

pub blank_ready : (names : List ℕ) → Ready (length names) 0 blank_sheet names []
unfolding lines_in cut
blank_ready names =
    let laid : Laid blank_sheet = record { room = refl; few = omega arith; behind = refl } in
    record { laid = laid; row = refl; free = refl; sound = refl; long = refl; held = refl }

-- how many lines there are
pub ready_count : (room at : ℕ) (t : Sheet) (names : List ℕ) (lines : List Line) → Ready room at t names lines → t.count ≡ length lines
ready_count room at t names lines y = sym (lines_count t names y.laid) ∙ ap (λ (l : List Line). length l) y.held

-- ---- a line

module _ (room at : ℕ) (s : Sheet) (names : List ℕ) (lines : List Line) (line : Line) (y : Ready room at s names lines) (g : Good line)
    (few : s.count < 16) (fits : at + length line.name ≤ room) where
  abbrev r : Row
  r = row_of at line

  abbrev all : List ℕ
  all = sets names at line.name

  abbrev rest : List ℕ
  rest = drop (at + length line.name) names

  put : all ≡ take at names ++ (line.name ++ rest)
  put = sets-eq line.name names at (omega (arith, y.long)) ∙ append_assoc (take at names) line.name rest

  front : length (take at names) ≡ at
  front = length-take-le at names (omega (arith, y.long))

  starts : s.row.start ≡ at
  starts = ap (λ (x : Row). x.start) y.row

  same : lines_in s all ≡ lines
  same =
      let e : take at all ≡ take at names = ap (take at) put ∙ take_at (take at names) (line.name ++ rest) at front in
      lines_same s all names y.laid (subst (λ (k : ℕ). take k all ≡ take k names) (sym starts) e) ∙ y.held

  own : line_by r all ≡ line
  own =
      let n : ℕ = length line.name in
      let e : drop at all ≡ line.name ++ rest = ap (drop at) put ∙ drop_at (take at names) (line.name ++ rest) at front in
      let k : at + n - at ≡ n = omega arith in
      let name : take (at + n - at) (drop at all) ≡ line.name = rw (k, e) (take_at line.name rest n refl) in
      ap (λ (l : List ℕ). record { name = l; reading = reading r; lots = line.lots }) name
      ∙ ap (λ (x : ℕ). record { name = line.name; reading = x; lots = line.lots }) (row-reading at line g)

  line_ready : Ready room (at + length line.name) (taken s r) all (lines ++ line ∷ [])
  line_ready = record {
    laid = taken-laid s r y.laid few (sym starts) (omega arith);
    row = refl;
    free = y.free;
    sound = y.sound;
    long = length-sets names at line.name ∙ y.long;
    held = taken_lines s r y.laid few (sym starts) all
        ∙ ap (λ (l : List Line). l ++ line_by r all ∷ []) same ∙ ap (λ (x : Line). lines ++ x ∷ []) own;
  }

-- ---- lines

-- the text leads to a row's start, with these lines
pub record Reads (room : ℕ) (s : Sheet) (was text : List ℕ) (lines : List Line) : Type 0 where
  pub at : ℕ
  pub last : Sheet
  pub more : List ℕ
  pub leads : Leads room s was text last more
  pub ready : Ready room at last more lines

pub lines_read : (room : ℕ) (lines before : List Line) (at : ℕ) (s : Sheet) (names : List ℕ) → Ready room at s names before → Every Good lines
    → length before + length lines ≤ 16
    → at + length (text_of lines) ≤ room → Reads room s names (text_of lines) (before ++ lines)
unfolding text_of
lines_read room [] before at s names y good few fits =
    let ready = subst (λ (l : List Line). Ready room at s names l) (sym (append-nil before)) y in
    record { at = at; last = s; more = names; leads = record { sheet = λ rest. refl; names = λ rest. refl }; ready = ready }
lines_read room (line ∷ lines) before at s names y good few fits =
    let g : Good line = good line (here refl) in
    let n = ready_count room at s names before y in
    let t = length-append (line_text line) (text_of lines) in
    let less : s.count < 16 = omega (arith, n, few) in
    let h : at + length line.name ≤ room = omega (arith, t, line_longer line, fits) in
    let one = line_leads room s y.free at line names y.row y.long h less g in
    let two = line_ready room at s names before line y g less h in
    let more : length (before ++ line ∷ []) + length lines ≤ 16 = omega (arith, length-append before (line ∷ []), few) in
    let room' : at + length line.name + length (text_of lines) ≤ room = omega (arith, t, line_longer line, fits) in
    let rest = lines_read room lines (before ++ line ∷ []) _ (taken s (row_of at line)) (sets names at line.name) two (λ x i. good x (there i)) more room' in
    record {
      at = rest.at;
      last = rest.last;
      more = rest.more;
      leads = leads_join (line_text line) (text_of lines) one rest.leads;
      ready = subst (λ (l : List Line). Ready room rest.at rest.last rest.more l) (append_assoc before (line ∷ []) lines) rest.ready;
    }

-- ---- the end of a text

-- the line feed that may be missing, at a row's start
last-feed : (room at : ℕ) (s : Sheet) → s.row ≡ fresh at → s.stopped ≡ false → eaten room s (10 ∷ []) ≡ passed s s.first at
unfolding fed fed_by sort_of next ended
last-feed room at s e free =
    eaten-row room s (10 ∷ []) free (ap (λ (x : Row). is_start x.phase && false) e) ∙ ap (λ (x : Row). entered s (fed room x 10)) e

closed_same : (s : Sheet) → s.fault ≡ None → is_start s.row.phase ≡ true → 0 < s.count → closed_by s ≡ s
unfolding closed_by
closed_same s a b c = go (is_some s.fault) (not (is_start s.row.phase)) (eqb s.count 0) (rw a) (rw b) (ne_eqb s.count 0 (λ e. omega (arith, e)))
  where
    go : (p q t : Bool) → p ≡ false → q ≡ false → t ≡ false → cond p s (cond q (refused s s.row (Some NotClosed)) (cond t (refused s s.row (Some NoRows)) s)) ≡ s
    go p q t e f g = rw (e, f, g)

-- what comes behind the lines adds none and has no fault
pub record Ends (room : ℕ) (t : Sheet) (was rest : List ℕ) : Type 0 where
  pub end : Sheet
  pub sheet : closed_by (eaten room (sheet_after room t rest) (10 ∷ [])) ≡ end
  pub names : names_after t rest was ≡ was
  pub sound : end.fault ≡ None
  pub held : lines_in end was ≡ lines_in t was

-- nothing
pub ends_here : (room at : ℕ) (t : Sheet) (names : List ℕ) (lines : List Line) → Ready room at t names lines → 0 < t.count → Ends room t names []
unfolding sheet_after names_after lines_in
ends_here room at t names lines y some =
    let end : Sheet = passed t t.first at in
    record {
      end = end;
      sheet = ap closed_by (last-feed room at t y.row y.free) ∙ closed_same end y.sound refl some;
      names = refl;
      sound = y.sound;
      held = refl;
    }

-- nothing is read of a sheet that is stopped
stopped-eaten : (room : ℕ) (s : Sheet) (l : List ℕ) → s.stopped ≡ true → eaten room s l ≡ s
unfolding eaten
stopped-eaten room s l e = by_test (λ (t : Sheet). t ≡ s) s.stopped (λ _. refl) (λ f. absurd (false≢true (sym f ∙ e)))

stopped_sheet : (room : ℕ) (s : Sheet) (l : List ℕ) → s.stopped ≡ true → sheet_after room s l ≡ s
unfolding sheet_after
stopped_sheet room s [] e = refl
stopped_sheet room s (b ∷ l) e = ap (λ (t : Sheet). sheet_after room t l) (stopped-eaten room s (b ∷ l) e) ∙ stopped_sheet room s l e

stopped_names : (s : Sheet) (l names : List ℕ) → s.stopped ≡ true → names_after s l names ≡ names
unfolding names_after kept
stopped_names s [] names e = refl
stopped_names s (b ∷ l) names e =
    let k : kept s b names ≡ names = rw e in
    ap (λ (t : Sheet). names_after t l (kept s b names)) (stopped-eaten (length names) s (b ∷ l) e) ∙ ap (λ (m : List ℕ). names_after s l m) k
    ∙ stopped_names s l names e

-- a comma at a row's start is no byte of a name
kept_none : (s : Sheet) (names : List ℕ) (at : ℕ) → s.row ≡ fresh at → kept s 44 names ≡ names
unfolding kept next sort_of
kept_none s names at e = ap (λ (x : Row). cond (not s.stopped && in_name (next x.phase Comma)) (set names s.row.kept 44) names) e ∙ go (not s.stopped)
  where
    go : (t : Bool) → cond (t && false) (set names s.row.kept 44) names ≡ names
    go true = refl
    go false = refl

-- a listing
listing_eaten : (room at : ℕ) (s : Sheet) (rest : List ℕ) → s.row ≡ fresh at → s.stopped ≡ false
    → eaten room s (44 ∷ 108 ∷ 111 ∷ 116 ∷ rest) ≡ refused s s.row None
unfolding eaten
listing_eaten room at s _ e free =
    let P : Sheet → Type 0 = λ t. t ≡ refused s s.row None in
    by_test P s.stopped (λ f. absurd (false≢true (sym free ∙ f)))
    (λ _. by_test P (is_start s.row.phase && true) (λ _. refl) (λ f. absurd (false≢true (sym f ∙ ap (λ (x : Row). is_start x.phase && true) e))))

pub ends_listing : (room at : ℕ) (t : Sheet) (names : List ℕ) (lines : List Line) (rest : List ℕ) → Ready room at t names lines → 0 < t.count
    → Ends room t names (44 ∷ 108 ∷ 111 ∷ 116 ∷ rest)
unfolding sheet_after names_after lines_in kept next sort_of
ends_listing room at t names lines rest y some =
    let end : Sheet = refused t t.row None in
    let l : List ℕ = 108 ∷ 111 ∷ 116 ∷ rest in
    let one = listing_eaten room at t rest y.row y.free in
    let sheet : sheet_after room (eaten room t (44 ∷ l)) l ≡ end = ap (λ (s : Sheet). sheet_after room s l) one ∙ stopped_sheet room end l refl in
    let none : kept t 44 names ≡ names = kept_none t names at y.row in
    record {
      end = end;
      sheet = ap (λ (s : Sheet). closed_by (eaten room s (10 ∷ []))) sheet ∙ ap closed_by (stopped-eaten room end (10 ∷ []) refl)
          ∙ closed_same end refl (ap (λ (x : Row). is_start x.phase) y.row) some;
      names = ap (λ (s : Sheet). names_after s l (kept t 44 names)) (listing_eaten (length names) at t rest y.row y.free)
          ∙ stopped_names end l (kept t 44 names) refl ∙ none;
      sound = refl;
      held = refl;
    }
