-- "What it accepts and writes again as text reads back as the same rows." The lines of an accepted text are good (Fair); the text of good lines,
-- scanned from a row's start, adds them to those that the sheet holds (Scan, Held, Read), line by line. Assumes nothing.
--     round_trip    the theorem
--     lines_back    the text of any 1 to 16 good lines is accepted, and read as these
--     printed_back  and so is what `desk` prints of them, with titles before and a listing behind
use Rattle.std.specs.Prelude.{ℕ, ◌≤◌, ◌<◌, ◌≡◌, refl, true, false, List, [], ◌∷◌, ◌++◌, ltb, length, Option, is_none}
use Rattle.std.proofs.Common.{ap, subst, ◌∙◌, append-nil, arith, le-ltb, length-append}
use Rattle.std.proofs.lemmas.List.Edits.{sets}
use Rattle.std.proofs.Math.Seq.{length-sets}
use Rattle.base.specs.Members.{Every}
use Rattle.rows.specs.declared.Fault.{Fault}
use Rattle.rows.specs.declared.Sheet.{Sheet}
use Rattle.rows.specs.Row.{sort_of, next, fed, fed_by}
use Rattle.rows.specs.Sheet.{blank_sheet, passed, ended, eaten, kept, sheet_after, names_after, closed_by, sheet_of, names_of}
use Rattle.rows.specs.Lines.{Line, lines_in, lines_of, accepted, cut, is_bare, bare_from, name_text, text_of, titles, printed}
use Rattle.rows.specs.RoundTrip.Held.{Good, Laid}
use Rattle.rows.specs.RoundTrip.Scan.{Leads, leads_join, name_leads}
use Rattle.rows.specs.RoundTrip.Fair.{accepted_good}
use Rattle.rows.specs.RoundTrip.Read.{Ready, Reads, Ends, blank_ready, ready_count, lines_read, ends_here, ends_listing}
pub mod Held
pub mod Scan
pub mod Fair
pub mod Read

-- ---- whole texts

-- a text that leads from the blank sheet to these lines, and what comes behind it
read_back : (text rest names : List ℕ) (lines : List Line) → length (text ++ rest) ≤ length names → (x : Reads (length names) blank_sheet names text lines)
    → Ends (length names) x.last x.more rest
    → (accepted (text ++ rest) names ≡ true) × (lines_of (text ++ rest) names ≡ lines)
unfolding lines_of sheet_of names_of
read_back text rest names lines fits x z =
    let room : ℕ = length names in
    let all : List ℕ = text ++ rest in
    let short : ltb room (length all) ≡ false = le-ltb room (length all) fits in
    let whole : sheet_of room all ≡ z.end = rw short (ap (λ (s : Sheet). closed_by (eaten room s (10 ∷ []))) (x.leads.sheet rest) ∙ z.sheet) in
    let kept : names_of all names ≡ x.more = rw short (x.leads.names rest ∙ z.names) in
    let held : lines_in (sheet_of room all) (names_of all names) ≡ lines_in z.end x.more = rw (whole, kept) in
    (ap (λ (s : Sheet). is_none s.fault) whole ∙ ap (λ (f : Option Fault). is_none f) z.sound, held ∙ z.held ∙ x.ready.held)

-- the text of 1 to 16 good lines is accepted, and read as these
pub lines_back : (lines : List Line) (names : List ℕ) → Every Good lines → 0 < length lines → length lines ≤ 16 → length (text_of lines) ≤ length names
    → (accepted (text_of lines) names ≡ true) × (lines_of (text_of lines) names ≡ lines)
lines_back lines names good some few fits =
    let room : ℕ = length names in
    let x = lines_read room lines [] 0 blank_sheet names (blank_ready names) good (omega (arith, few)) (omega (arith, fits)) in
    let count = ready_count room x.at x.last x.more lines x.ready in
    let z = ends_here room x.at x.last x.more lines x.ready (omega (arith, count, some)) in
    let n = append-nil (text_of lines) in
    let back = read_back (text_of lines) [] names lines (omega (arith, ap (λ (l : List ℕ). length l) n, fits)) x z in
    subst (λ (l : List ℕ). (accepted l names ≡ true) × (lines_of l names ≡ lines)) n back

-- what is accepted and written again as text reads back as the same lines, whatever buffers the names are in
pub round_trip : (text names again : List ℕ) → accepted text names ≡ true → length (text_of (lines_of text names)) ≤ length again
    → (accepted (text_of (lines_of text names)) again ≡ true) × (lines_of (text_of (lines_of text names)) again ≡ lines_of text names)
round_trip text names again e room = let g = accepted_good text names e in lines_back (lines_of text names) again g.0 g.1 g.2 room

-- ---- what `desk` prints

-- the row of titles is passed over: its name is kept, and then written over
titles-lead : (room : ℕ) (names : List ℕ) → length names ≡ room → 4 ≤ room
    → Leads room blank_sheet names titles (passed blank_sheet false 0) (sets names 0 (110 ∷ 97 ∷ 109 ∷ 101 ∷ []))
unfolding name_text is_bare bare_from sort_of sheet_after names_after eaten kept fed fed_by next ended
titles-lead room names long fits =
    let name : List ℕ = 110 ∷ 97 ∷ 109 ∷ 101 ∷ [] in
    let rest : List ℕ = 109 ∷ 105 ∷ 99 ∷ 114 ∷ 111 ∷ 110 ∷ 44 ∷ 108 ∷ 111 ∷ 116 ∷ 10 ∷ [] in
    let first = name_leads room blank_sheet refl 0 name names long (omega arith) (omega arith) in
    leads_join (name ++ 44 ∷ []) rest first (record { sheet = λ rest. refl; names = λ rest. refl })

titles_ready : (names more : List ℕ) → length more ≡ length names → Ready (length names) 0 (passed blank_sheet false 0) more []
unfolding lines_in cut
titles_ready names more e =
    let laid : Laid (passed blank_sheet false 0) = record { room = refl; few = omega arith; behind = refl } in
    record { laid = laid; row = refl; free = refl; sound = refl; long = e; held = refl }

-- good lines as `desk` prints them are read as these, whatever it prints behind `,lot`
pub printed_back : (lines : List Line) (rest names : List ℕ) → Every Good lines → 0 < length lines → length lines ≤ 16
    → length (printed lines rest) ≤ length names
    → (accepted (printed lines rest) names ≡ true) × (lines_of (printed lines rest) names ≡ lines)
printed_back lines rest names good some few fits =
    let room : ℕ = length names in
    let more : List ℕ = sets names 0 (110 ∷ 97 ∷ 109 ∷ 101 ∷ []) in
    let listing : List ℕ = 44 ∷ 108 ∷ 111 ∷ 116 ∷ rest in
    let a = length-append (titles ++ text_of lines) listing in
    let b = length-append titles (text_of lines) in
    let y = titles_ready names more (length-sets names 0 (110 ∷ 97 ∷ 109 ∷ 101 ∷ [])) in
    let x = lines_read room lines [] 0 (passed blank_sheet false 0) more y good (omega (arith, few)) (omega (arith, a, b, fits)) in
    let leads = leads_join titles (text_of lines) (titles-lead room names refl (omega (arith, a, b, fits))) x.leads in
    let count = ready_count room x.at x.last x.more lines x.ready in
    let z = ends_listing room x.at x.last x.more lines rest x.ready (omega (arith, count, some)) in
    read_back (titles ++ text_of lines) listing names lines fits (record { at = x.at; last = x.last; more = x.more; leads = leads; ready = x.ready }) z
