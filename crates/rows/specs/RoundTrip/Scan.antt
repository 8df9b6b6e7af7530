-- The text of a line of wool, read byte by byte: from a row's start it leads to the sheet with that line in it, and its name among the names.
-- A text leads from one sheet to another, whatever comes behind it (`Leads`); so pieces join, and each byte is one turn of `eaten` and `kept`. Assumes nothing.
--     Leads, leads_join, byte_leads       texts that lead from sheet to sheet; one byte
--     sort_small .. quoted-next           sorts of the bytes of a line's text, and which phase comes next
--     named, counted, bare-fed ..         rows in a name and behind it, and these after a byte
--     row_of, row_sound                    the whole row has no fault
--     name_leads, micron_leads, lots_leads, feed_leads, line_leads    the pieces of a line's text, and the whole
use Prim.Native.Nat.{ℕ, ◌+◌, ◌*◌, ◌-◌, ◌/◌, ◌%◌, ◌≤◌, ◌<◌}
use Rattle.std.specs.Prelude.{◌≡◌, Bool, cond, not, ◌&&◌, ◌||◌, ltb, leb, set, Some, None, is_some}
use Rattle.std.proofs.Math.Path.{refl, subst}
use Rattle.std.proofs.Common.{sym, ap, ◌∙◌, add-zero, lt-ltb, le-ltb, le-leb, ne_eqb, ltb-true, eqb-true}
use Rattle.std.proofs.Math.Bool.{true, false}
use Rattle.std.proofs.lemmas.Bool.{false≢true, lt-leb}
use mathlib.Core.List.{List, [], ◌∷◌, ◌++◌, append_assoc}
use native.Mathlib.Omega.{arith}
use Rattle.std.proofs.Math.Numerals.{add-one}
use Rattle.std.proofs.Math.Dec.{eqb}
use Rattle.std.proofs.Math.ListN.{length, length-set}
use Rattle.std.proofs.Math.Seq.{sets, length-sets}
use Rattle.rows.specs.declared.Fault.TheVariants.{MoreRows}
use Rattle.rows.specs.declared.Phase.{Phase}
use Rattle.rows.specs.declared.Phase.TheVariants.{Start, Bare, Opened, Quoted, Inner, Micron, Whole, Point, Tenth, Lots, Count, Over}
use Rattle.rows.specs.declared.Row.{Row}
use Rattle.rows.specs.declared.scan.Sort.{Sort}
use Rattle.rows.specs.declared.scan.Sort.TheVariants.{Blank, Feed, Comma, Quote, Digit, Dot, Other}
use Rattle.rows.specs.declared.Sheet.{Sheet}
use Rattle.rows.specs.Row.{sort_of, next, in_name, in_solid, is_start, is_over, is_solid, leaves_empty, fed, fed_by, is_digit}
use Rattle.rows.specs.Sheet.{fresh, reading, row_fault, value_fault, with_row, passed, refused, taken, entered, ended, eaten, kept, sheet_after, names_after}
use Rattle.rows.specs.Sheet.Laws.{eaten-row}
use Rattle.base.specs.Shape.Laws.{and_right}
use Rattle.rows.specs.RoundTrip.Held.{Good}
use Rattle.rows.specs.Lines.{Line, is_bare, bare_from, ordinary, twice, doubled, name_text, micron_text, lots_text, line_text}

-- ---- texts that lead from sheet to sheet

-- scanned from s and the names that were, the text leaves t and more, whatever comes behind it; there is room for so many bytes of names
pub record Leads (room : ℕ) (s : Sheet) (was text : List ℕ) (t : Sheet) (more : List ℕ) : Type 0 where
  pub sheet : (rest : List ℕ) → sheet_after room s (text ++ rest) ≡ sheet_after room t rest
  pub names : (rest : List ℕ) → names_after s (text ++ rest) was ≡ names_after t rest more

pub leads_join : {room : ℕ} {s t u : Sheet} {a b c : List ℕ} (x y : List ℕ) → Leads room s a x t b → Leads room t b y u c → Leads room s a (x ++ y) u c
leads_join {room} {s} {t} {u} {a} {b} {c} x y f g = record {
  sheet = λ rest. ap (λ (l : List ℕ). sheet_after room s l) (append_assoc x y rest) ∙ f.sheet (y ++ rest) ∙ g.sheet rest;
  names = λ rest. ap (λ (l : List ℕ). names_after s l a) (append_assoc x y rest) ∙ f.names (y ++ rest) ∙ g.names rest;
}

leads_as : {room : ℕ} {s t u : Sheet} {a x b c : List ℕ} → Leads room s a x t b → t ≡ u → b ≡ c → Leads room s a x u c
leads_as {room} {s} {t} {u} {a} {x} {b} {c} f e g = subst (λ (m : List ℕ). Leads room s a x u m) g (subst (λ (v : Sheet). Leads room s a x v b) e f)

-- at its start a row has no comma, which may begin a listing
abbrev pub NoListing : Row → ℕ → Type 0
NoListing r b = (is_start r.phase && eqb 44 b) ≡ false

not_both : (a b c : Bool) → (a && b) ≡ false → (a && (b && c)) ≡ false
not_both true true c h = absurd (false≢true (sym h))
not_both true false c h = refl
not_both false b c h = refl

-- one byte
byte_leads : (room : ℕ) (s : Sheet) (names : List ℕ) (b : ℕ) → length names ≡ room → s.stopped ≡ false → NoListing s.row b
    → Leads room s names (b ∷ []) (entered s (fed room s.row b)) (kept s b names)
unfolding sheet_after names_after
byte_leads room s names b long free quiet =
    let e : (rest : List ℕ) → eaten room s (b ∷ rest) ≡ entered s (fed room s.row b) =
    λ rest. eaten-row room s (b ∷ rest) free (not_both (is_start s.row.phase) (eqb 44 b) _ quiet) in
    record {
      sheet = λ rest. ap (λ (t : Sheet). sheet_after room t rest) (e rest);
      names = λ rest. ap (λ (n : ℕ). names_after (eaten n s (b ∷ rest)) rest (kept s b names)) long
          ∙ ap (λ (t : Sheet). names_after t rest (kept s b names)) (e rest);
    }

fed_as : (room : ℕ) (r : Row) (b : ℕ) (sort : Sort) (to : Phase) → sort_of b ≡ sort → next r.phase sort ≡ to → fed room r b ≡ fed_by room r b sort to
unfolding fed
fed_as room r b sort to e f = rw (e, f)

fed_phase : (room : ℕ) (r : Row) (b : ℕ) (sort : Sort) (to : Phase) → (fed_by room r b sort to).phase ≡ to
unfolding fed_by
fed_phase room r b sort to = refl

entered-row : (s : Sheet) (r : Row) → is_over r.phase ≡ false → entered s r ≡ with_row s r
entered-row s r h = rw h

kept_as : (s : Sheet) (b : ℕ) (to : Phase) (names : List ℕ) → s.stopped ≡ false → next s.row.phase (sort_of b) ≡ to
    → kept s b names ≡ cond (in_name to) (set names s.row.kept b) names
unfolding kept
kept_as s b to names free q = rw (free, q)

entered_over : (s : Sheet) (r : Row) → r.phase ≡ Over → entered s r ≡ ended s r
entered_over s r h = rw h

-- ---- sorts

glyph_sort : (d : ℕ) → d < 10 → sort_of (48 + d) ≡ Digit
unfolding sort_of
glyph_sort d h =
    rw (
      ne_eqb (48 + d) 32 (λ e. omega (arith, e)),
      ne_eqb (48 + d) 9 (λ e. omega (arith, e)),
      ne_eqb (48 + d) 13 (λ e. omega (arith, e)),
      ne_eqb (48 + d) 10 (λ e. omega (arith, e)),
      ne_eqb (48 + d) 44 (λ e. omega (arith, e)),
      ne_eqb (48 + d) 34 (λ e. omega (arith, e)),
      ne_eqb (48 + d) 46 (λ e. omega (arith, e)),
      le-leb 48 (48 + d) (omega arith),
      le-leb (48 + d) 57 (omega arith),
    )

space_sort : (b : ℕ) → b ≡ 32 → sort_of b ≡ Blank
unfolding sort_of
space_sort b e = rw e

quote_sort : (b : ℕ) → b ≡ 34 → sort_of b ≡ Quote
unfolding sort_of
quote_sort b e = rw e

-- only a quote is of its sort
abbrev is_quote : Sort → Bool
is_quote Quote = true
is_quote _ = false

other_sort : (b : ℕ) → eqb b 34 ≡ false → is_quote (sort_of b) ≡ false
unfolding sort_of
other_sort b h = rw h (go (eqb b 32) (eqb b 9) (eqb b 13) (eqb b 10) (eqb b 44) (eqb b 46) (is_digit b))
  where
    go : (p q r t u w x : Bool) → is_quote (cond p Blank (cond q Blank (cond r Blank (cond t Feed (cond u Comma (cond w Dot (cond x Digit Other))))))) ≡ false
    go true q r t u w x = refl
    go false true r t u w x = refl
    go false false true t u w x = refl
    go false false false true u w x = refl
    go false false false false true w x = refl
    go false false false false false true x = refl
    go false false false false false false true = refl
    go false false false false false false false = refl

-- ---- phases

-- a byte that can stand at the end of a bare name goes on with it, or begins one
solid_next : (k : Sort) → is_solid k ≡ true → (next Bare k ≡ Bare) × (next Start k ≡ Bare)
unfolding next
solid_next Digit e = (refl, refl)
solid_next Dot e = (refl, refl)
solid_next Other e = (refl, refl)
solid_next Blank e = absurd (false≢true e)
solid_next Feed e = absurd (false≢true e)
solid_next Comma e = absurd (false≢true e)
solid_next Quote e = absurd (false≢true e)

-- and is part of it
solid_stays : (k : Sort) → is_solid k ≡ true → (in_solid Bare k ≡ true) × (leaves_empty k ≡ false)
solid_stays Digit e = (refl, refl)
solid_stays Dot e = (refl, refl)
solid_stays Other e = (refl, refl)
solid_stays Blank e = absurd (false≢true e)
solid_stays Feed e = absurd (false≢true e)
solid_stays Comma e = absurd (false≢true e)
solid_stays Quote e = absurd (false≢true e)

bare_space : next Bare Blank ≡ Bare
unfolding next
bare_space = refl

-- in quotes every byte but a quote goes on with the name, also the first
quoted-next : (k : Sort) → is_quote k ≡ false → (next Quoted k ≡ Quoted) × (next Opened k ≡ Quoted)
unfolding next
quoted-next Digit e = (refl, refl)
quoted-next Dot e = (refl, refl)
quoted-next Other e = (refl, refl)
quoted-next Blank e = (refl, refl)
quoted-next Feed e = (refl, refl)
quoted-next Comma e = (refl, refl)
quoted-next Quote e = absurd (false≢true (sym e))

-- ---- rows within a line's text

-- a row in its name
abbrev pub named : Phase → ℕ → ℕ → ℕ → Row
named phase at k m = record { phase = phase; fault = None; digits = false; empty = false; start = at; kept = k; solid = m; whole = 0; tenth = 0; lots = 0 }

-- a row behind its name
abbrev pub counted : Phase → Bool → ℕ → ℕ → ℕ → ℕ → ℕ → Row
counted phase digits at k w t d = record { phase = phase; fault = None; digits = digits; empty = false; start = at; kept = k; solid = k; whole = w; tenth = t; lots = d }

bare-fed : (room at k m b : ℕ) (sort : Sort) → is_solid sort ≡ true → k < room → fed_by room (named Bare at k m) b sort Bare ≡ named Bare at (k + 1) (k + 1)
unfolding fed_by
bare-fed room at k m b sort h l = rw (lt-ltb k room l, (solid_stays sort h).0)

space_fed : (room at k m b : ℕ) → k < room → fed_by room (named Bare at k m) b Blank Bare ≡ named Bare at (k + 1) m
unfolding fed_by
space_fed room at k m b l = rw (lt-ltb k room l)

first-fed : (room at b : ℕ) (sort : Sort) → is_solid sort ≡ true → at < room → fed_by room (fresh at) b sort Bare ≡ named Bare at (at + 1) (at + 1)
unfolding fed_by
first-fed room at b sort h l = rw (lt-ltb at room l, (solid_stays sort h).0, (solid_stays sort h).1)

quoted-fed : (room : ℕ) (phase : Phase) (at k m b : ℕ) (sort : Sort) → k < room
    → fed_by room (named phase at k m) b sort Quoted ≡ named Quoted at (k + 1) (k + 1)
unfolding fed_by
quoted-fed room phase at k m b sort l = rw (lt-ltb k room l)

opened-fed : (room at : ℕ) → fed_by room (fresh at) 34 Quote Opened ≡ named Opened at at at
unfolding fed_by
opened-fed room at = refl

inner-fed : (room at k : ℕ) → fed_by room (named Quoted at k k) 34 Quote Inner ≡ named Inner at k k
unfolding fed_by
inner-fed room at k = refl

no_comma_lem : (b : ℕ) → is_solid (sort_of b) ≡ true → eqb 44 b ≡ false
unfolding sort_of
no_comma_lem b h = go (eqb 44 b) refl
  where
    go : (t : Bool) → eqb 44 b ≡ t → t ≡ false
    go true e = absurd (false≢true (ap (λ (k : ℕ). is_solid (sort_of k)) (eqb-true 44 b e) ∙ h))
    go false e = refl

whole-first : (room at k a : ℕ) → fed_by room (counted Micron false at k 0 0 0) (48 + a) Digit Whole ≡ counted Whole true at k a 0 0
unfolding fed_by
whole-first room at k a = let e : 10 * 0 + (48 + a - 48) ≡ a = omega arith in rw e

whole_second : (room at k a b : ℕ) → a < 10 → fed_by room (counted Whole true at k a 0 0) (48 + b) Digit Whole ≡ counted Whole true at k (10 * a + b) 0 0
unfolding fed_by
whole_second room at k a b h = let e : 48 + b - 48 ≡ b = omega arith in rw (lt-ltb a 10000 (omega arith), e)

tenth-fed : (room at k w c : ℕ) → fed_by room (counted Point true at k w 0 0) (48 + c) Digit Tenth ≡ counted Tenth true at k w c 0
unfolding fed_by
tenth-fed room at k w c = let e : 48 + c - 48 ≡ c = omega arith in rw e

count-first : (room at k w t b : ℕ) → fed_by room (counted Lots true at k w t 0) (48 + b) Digit Count ≡ counted Count true at k w t b
unfolding fed_by
count-first room at k w t b = let e : 10 * 0 + (48 + b - 48) ≡ b = omega arith in rw e

count_second : (room at k w t a b : ℕ) → a < 10 → fed_by room (counted Count true at k w t a) (48 + b) Digit Count ≡ counted Count true at k w t (10 * a + b)
unfolding fed_by
count_second room at k w t a b h = let e : 48 + b - 48 ≡ b = omega arith in rw (lt-ltb a 10000 (omega arith), e)

-- ---- a whole row

-- the row of a line whose name begins at this place
abbrev pub row_of : ℕ → Line → Row
row_of at line = counted Over true at (at + length line.name) (10 * (line.reading / 100 % 10) + line.reading / 10 % 10) (line.reading % 10) line.lots

pub row-reading : (at : ℕ) (line : Line) → Good line → reading (row_of at line) ≡ line.reading
row-reading at line g = omega (arith, g.most)

row_sound : (at : ℕ) (line : Line) → Good line → row_fault (row_of at line) ≡ None
unfolding row_fault value_fault
row_sound at line g =
    rw (
      lt-leb (at + length line.name) at (omega (arith, g.named)),
      row-reading at line g,
      le-ltb line.reading 100 g.least,
      le-ltb 400 line.reading g.most,
      le-ltb line.lots 1 g.some,
      le-ltb 16 line.lots g.few,
    )

-- a row without a fault that has a digit is one more line of wool
ended-taken : (s : Sheet) (r : Row) → r.empty ≡ false → r.digits ≡ true → row_fault r ≡ None → s.count < 16 → ended s r ≡ taken s r
unfolding ended
ended-taken s r a b c d =
    go r.empty (s.first && not r.digits) (is_some (row_fault r)) (leb 16 s.count) a (rw b (off s.first)) (rw c) (lt-leb 16 s.count d)
  where
    off : (t : Bool) → (t && false) ≡ false
    off true = refl
    off false = refl

    go : (p q t u : Bool) → p ≡ false → q ≡ false → t ≡ false → u ≡ false
        → cond p (passed s s.first r.start) (cond q (passed s false r.start) (cond t (refused s r (row_fault r)) (cond u (refused s r (Some MoreRows)) (taken s r)))) ≡ taken s r
    go p q t u e f g h = rw (e, f, g, h)

-- ---- names

module _ (room : ℕ) (s : Sheet) (free : s.stopped ≡ false) where
  -- the text leads from this row and the names that were to that row and more
  abbrev pub Goes : Row → List ℕ → List ℕ → Row → List ℕ → Type 0
  Goes r was text t more = Leads room (with_row s r) was text (with_row s t) more

  -- a byte of this sort, which leads to this phase
  byte_goes : (r : Row) (names : List ℕ) (b : ℕ) (sort : Sort) (to : Phase) (t : Row) {more : List ℕ} → length names ≡ room → NoListing r b → sort_of b ≡ sort
      → next r.phase sort ≡ to
      → is_over to ≡ false → cond (in_name to) (set names r.kept b) names ≡ more → fed_by room r b sort to ≡ t → Goes r names (b ∷ []) t more
  byte_goes r names b sort to t long quiet e f g k q =
      let u : Row = fed_by room r b sort to in
      let row : entered (with_row s r) u ≡ with_row s u = entered-row (with_row s r) u (ap (λ (k : Phase). is_over k) (fed_phase room r b sort to) ∙ g) in
      leads_as (byte_leads room (with_row s r) names b long free quiet)
      (ap (λ (v : Row). entered (with_row s r) v) (fed_as room r b sort to e f) ∙ row ∙ ap (λ (v : Row). with_row s v) q)
      (kept_as (with_row s r) b to names free (ap (λ (j : Sort). next r.phase j) e ∙ f) ∙ k)

  -- bytes of a bare name at place k: one that can end it, a space
  solid_goes : (at k m b : ℕ) (names : List ℕ) → length names ≡ room → k < room → is_solid (sort_of b) ≡ true
      → Goes (named Bare at k m) names (b ∷ []) (named Bare at (k + 1) (k + 1)) (set names k b)
  solid_goes at k m b names long fits e =
      let goes = (solid_next (sort_of b) e).0 in
      byte_goes (named Bare at k m) names b (sort_of b) Bare _ long refl refl goes refl refl (bare-fed room at k m b (sort_of b) e fits)

  space_goes : (at k m b : ℕ) (names : List ℕ) → length names ≡ room → k < room → b ≡ 32
      → Goes (named Bare at k m) names (b ∷ []) (named Bare at (k + 1) m) (set names k b)
  space_goes at k m b names long fits e =
      byte_goes (named Bare at k m) names b Blank Bare _ long refl (space_sort b e) bare_space refl refl (space_fed room at k m b fits)

  -- what is left of a bare name, from place k on
  bare_leads : (at k m b : ℕ) (l names : List ℕ) → length names ≡ room → k + length (b ∷ l) ≤ room → bare_from b l ≡ true
      → Goes (named Bare at k m) names (b ∷ l) (named Bare at (k + length (b ∷ l)) (k + length (b ∷ l))) (sets names k (b ∷ l))
  unfolding bare_from
  bare_leads at k m b [] names long fits e = solid_goes at k m b names long (omega arith) e
  bare_leads at k m b (c ∷ l) names long fits e =
      let full : length (set names k b) ≡ room = length-set names k b ∙ long in
      go (λ m' f. rw (← n, ← add-one k) (bare_leads at (k + 1) m' c l (set names k b) full (omega arith) f)) (eqb b 32) refl (is_solid (sort_of b)) refl e
    where
      n : k + 1 + length (c ∷ l) ≡ k + length (b ∷ c ∷ l)
      n = omega arith

      -- the name is at its end
      end : Row
      end = named Bare at (k + length (b ∷ c ∷ l)) (k + length (b ∷ c ∷ l))

      go : ((m' : ℕ) → bare_from c l ≡ true → Goes (named Bare at (k + 1) m') (set names k b) (c ∷ l) end (sets names k (b ∷ c ∷ l))) → (t : Bool) → eqb b 32 ≡ t
          → (u : Bool) → is_solid (sort_of b) ≡ u → ((t || u) && bare_from c l) ≡ true → Goes (named Bare at k m) names (b ∷ c ∷ l) end (sets names k (b ∷ c ∷ l))
      go left true p u q f = leads_join (b ∷ []) (c ∷ l) (space_goes at k m b names long (omega arith) (eqb-true b 32 p)) (left m f)
      go left false p true q f = leads_join (b ∷ []) (c ∷ l) (solid_goes at k m b names long (omega arith) q) (left (k + 1) f)
      go left false p false q f = absurd (false≢true f)

  -- one byte of a name in quotes, a quote twice: in this phase of which `next` says the same as of the other
  twice_leads : (phase : Phase) (at k m b : ℕ) (names : List ℕ) → ((sort : Sort) → is_quote sort ≡ false → next phase sort ≡ Quoted)
      → next phase Quote ≡ Inner
      → is_start phase ≡ false
      → length names ≡ room → k < room → Goes (named phase at k m) names (twice b) (named Quoted at (k + 1) (k + 1)) (set names k b)
  unfolding fed_by next
  twice_leads phase at k m b names goes marks apart long fits = go (eqb b 34) refl
    where
      quiet : (b : ℕ) → (is_start phase && eqb 44 b) ≡ false
      quiet b = rw apart

      go : (t : Bool) → eqb b 34 ≡ t → Goes (named phase at k m) names (cond t (34 ∷ 34 ∷ []) (b ∷ [])) (named Quoted at (k + 1) (k + 1)) (set names k b)
      go true e =
          let one : fed_by room (named phase at k m) 34 Quote Inner ≡ named Inner at k m = refl in
          let x = byte_goes (named phase at k m) names 34 Quote Inner (named Inner at k m) long (quiet 34) (quote_sort 34 refl) marks refl refl one in
          let y = byte_goes (named Inner at k m) names 34 Quote Quoted _ long refl (quote_sort 34 refl) refl refl refl (quoted-fed room Inner at k m 34 Quote fits) in
          rw (eqb-true b 34 e) (leads_join (34 ∷ []) (34 ∷ []) x y)
      go false e =
          let g = goes (sort_of b) (other_sort b e) in
          byte_goes (named phase at k m) names b (sort_of b) Quoted _ long (quiet b) refl g refl refl (quoted-fed room phase at k m b (sort_of b) fits)

  -- a name in quotes, from place k on, behind its first byte
  quoted_leads : (at k : ℕ) (l names : List ℕ) → length names ≡ room → k + length l ≤ room
      → Goes (named Quoted at k k) names (doubled l) (named Quoted at (k + length l) (k + length l)) (sets names k l)
  unfolding doubled next
  quoted_leads at k [] names long fits = rw (add-zero k) (record { sheet = λ rest. refl; names = λ rest. refl })
  quoted_leads at k (b ∷ l) names long fits =
      let n : k + 1 + length l ≡ k + length (b ∷ l) = omega arith in
      let x = twice_leads Quoted at k k b names (λ sort h. (quoted-next sort h).0) refl refl long (omega arith) in
      let y = quoted_leads at (k + 1) l (set names k b) (length-set names k b ∙ long) (omega arith) in
      rw (← n, ← add-one k) (leads_join (twice b) (doubled l) x y)

  -- ---- a name, and the comma behind it

  comma_leads : (phase : Phase) (at k : ℕ) (names : List ℕ) → is_start phase ≡ false → next phase Comma ≡ Micron → length names ≡ room
      → Goes (named phase at k k) names (44 ∷ []) (counted Micron false at k 0 0 0) names
  unfolding fed_by sort_of
  comma_leads phase at k names apart goes long =
      byte_goes (named phase at k k) names 44 Comma Micron (counted Micron false at k 0 0 0) long (rw apart) refl goes refl refl refl

  -- without quotes
  first_leads : (at b : ℕ) (names : List ℕ) → length names ≡ room → at < room → is_solid (sort_of b) ≡ true
      → Goes (fresh at) names (b ∷ []) (named Bare at (at + 1) (at + 1)) (set names at b)
  first_leads at b names long fits e =
      let goes = (solid_next (sort_of b) e).1 in
      byte_goes (fresh at) names b (sort_of b) Bare _ long (no_comma_lem b e) refl goes refl refl (first-fed room at b (sort_of b) e fits)

  bare_name : (at b : ℕ) (l names : List ℕ) → length names ≡ room → at + length (b ∷ l) ≤ room → is_solid (sort_of b) ≡ true → bare_from b l ≡ true
      → Goes (fresh at) names (b ∷ l) (named Bare at (at + length (b ∷ l)) (at + length (b ∷ l))) (sets names at (b ∷ l))
  unfolding bare_from
  bare_name at b [] names long fits p q = first_leads at b names long (omega arith) p
  bare_name at b (c ∷ l) names long fits p q =
      let n : at + 1 + length (c ∷ l) ≡ at + length (b ∷ c ∷ l) = omega arith in
      let x = first_leads at b names long (omega arith) p in
      let y = bare_leads at (at + 1) (at + 1) c l (set names at b) (length-set names at b ∙ long) (omega arith) (and_right (ordinary b) (bare_from c l) q) in
      leads_join (b ∷ []) (c ∷ l) x (rw (← n, ← add-one at) y)

  -- in quotes: the quote that opens, the first byte, the others, the quote that closes
  quoted_name : (at b : ℕ) (l names : List ℕ) → length names ≡ room → at + length (b ∷ l) ≤ room
      → Goes (fresh at) names (34 ∷ doubled (b ∷ l) ++ 34 ∷ []) (named Inner at (at + length (b ∷ l)) (at + length (b ∷ l))) (sets names at (b ∷ l))
  unfolding doubled next
  quoted_name at b l names long fits =
      let k : ℕ = at + length (b ∷ l) in
      let n : at + 1 + length l ≡ k = omega arith in
      let x = byte_goes (fresh at) names 34 Quote Opened (named Opened at at at) long refl (quote_sort 34 refl) refl refl refl (opened-fed room at) in
      let y = twice_leads Opened at at at b names (λ sort h. (quoted-next sort h).1) refl refl long (omega arith) in
      let z : Goes (named Quoted at (at + 1) (at + 1)) (set names at b) (doubled l) (named Quoted at k k) (sets names at (b ∷ l)) =
      rw (← n, ← add-one at) (quoted_leads at (at + 1) l (set names at b) (length-set names at b ∙ long) (omega arith)) in
      let all : List ℕ = sets names at (b ∷ l) in
      let w = byte_goes (named Quoted at k k) all 34 Quote Inner _ (length-sets names at (b ∷ l) ∙ long) refl (quote_sort 34 refl) refl refl refl (inner-fed room at k) in
      leads_join (34 ∷ []) (doubled (b ∷ l) ++ 34 ∷ []) x (leads_join (doubled (b ∷ l)) (34 ∷ []) (leads_join (twice b) (doubled l) y z) w)

  pub name_leads : (at : ℕ) (name names : List ℕ) → length names ≡ room → 0 < length name → at + length name ≤ room
      → Goes (fresh at) names (name_text name ++ 44 ∷ []) (counted Micron false at (at + length name) 0 0 0) (sets names at name)
  unfolding name_text is_bare next
  name_leads at [] names long some fits = absurd (omega arith)
  name_leads at (b ∷ l) names long some fits = go (is_solid (sort_of b)) refl (bare_from b l) refl
    where
      full : length (sets names at (b ∷ l)) ≡ room
      full = length-sets names at (b ∷ l) ∙ long

      End : List ℕ → Type 0
      End text = Goes (fresh at) names (text ++ 44 ∷ []) (counted Micron false at (at + length (b ∷ l)) 0 0 0) (sets names at (b ∷ l))

      in_quotes : End (34 ∷ doubled (b ∷ l) ++ 34 ∷ [])
      in_quotes =
          let comma = comma_leads Inner at (at + length (b ∷ l)) (sets names at (b ∷ l)) refl refl full in
          leads_join (34 ∷ doubled (b ∷ l) ++ 34 ∷ []) (44 ∷ []) (quoted_name at b l names long fits) comma

      go : (t : Bool) → is_solid (sort_of b) ≡ t → (u : Bool) → bare_from b l ≡ u → End (cond (t && u) (b ∷ l) (34 ∷ doubled (b ∷ l) ++ 34 ∷ []))
      go false p u q = in_quotes
      go true p false q = in_quotes
      go true p true q =
          let comma = comma_leads Bare at (at + length (b ∷ l)) (sets names at (b ∷ l)) refl refl full in
          leads_join (b ∷ l) (44 ∷ []) (bare_name at b l names long fits p q) comma

  -- ---- micron and lots

  digit_goes : (r : Row) (names : List ℕ) (b : ℕ) (to : Phase) (t : Row) → length names ≡ room → b < 10 → is_start r.phase ≡ false → next r.phase Digit ≡ to
      → is_over to ≡ false → in_name to ≡ false → fed_by room r (48 + b) Digit to ≡ t → Goes r names ((48 + b) ∷ []) t names
  digit_goes r names b to t long h apart goes last quiet q = byte_goes r names (48 + b) Digit to t long (rw apart) (glyph_sort b h) goes last (rw quiet) q

  pub micron_leads : (at k x : ℕ) (names : List ℕ) → length names ≡ room
      → Goes (counted Micron false at k 0 0 0) names (micron_text x ++ 44 ∷ []) (counted Lots true at k (10 * (x / 100 % 10) + x / 10 % 10) (x % 10) 0) names
  unfolding fed_by next sort_of
  micron_leads at k x names long =
      let a : ℕ = x / 100 % 10 in
      let b : ℕ = x / 10 % 10 in
      let c : ℕ = x % 10 in
      let w : ℕ = 10 * a + b in
      let r : Phase → ℕ → ℕ → Row = λ phase w t. counted phase true at k w t 0 in
      let one = digit_goes (counted Micron false at k 0 0 0) names a Whole (r Whole a 0) long (omega arith) refl refl refl refl (whole-first room at k a) in
      let two = digit_goes (r Whole a 0) names b Whole (r Whole w 0) long (omega arith) refl refl refl refl (whole_second room at k a b (omega arith)) in
      let three = byte_goes (r Whole w 0) names 46 Dot Point (r Point w 0) long refl refl refl refl refl refl in
      let four = digit_goes (r Point w 0) names c Tenth (r Tenth w c) long (omega arith) refl refl refl refl (tenth-fed room at k w c) in
      let five = byte_goes (r Tenth w c) names 44 Comma Lots (r Lots w c) long refl refl refl refl refl refl in
      leads_join ((48 + a) ∷ []) _ one (leads_join ((48 + b) ∷ []) _ two (leads_join (46 ∷ []) _ three (leads_join ((48 + c) ∷ []) _ four five)))

  pub lots_leads : (at k w t d : ℕ) (names : List ℕ) → length names ≡ room → d < 100
      → Goes (counted Lots true at k w t 0) names (lots_text d) (counted Count true at k w t d) names
  unfolding next
  lots_leads at k w t d names long h = go (ltb d 10) refl
    where
      before : Row
      before = counted Lots true at k w t 0

      in_count : ℕ → Row
      in_count j = counted Count true at k w t j

      first : (b : ℕ) → b < 10 → Goes before names ((48 + b) ∷ []) (in_count b) names
      first b l = digit_goes before names b Count (in_count b) long l refl refl refl refl (count-first room at k w t b)

      second : (a b : ℕ) → a < 10 → b < 10 → Goes (in_count a) names ((48 + b) ∷ []) (in_count (10 * a + b)) names
      second a b g l = digit_goes (in_count a) names b Count (in_count (10 * a + b)) long l refl refl refl refl (count_second room at k w t a b g)

      go : (u : Bool) → ltb d 10 ≡ u → Goes before names (cond u ((48 + d % 10) ∷ []) ((48 + d / 10 % 10) ∷ (48 + d % 10) ∷ [])) (in_count d) names
      go true e =
          let m : d % 10 ≡ d = omega (arith, ltb-true d 10 e) in
          subst (λ (j : ℕ). Goes before names ((48 + d % 10) ∷ []) (in_count j) names) m (first (d % 10) (omega arith))
      go false e =
          let a : ℕ = d / 10 % 10 in
          let m : 10 * a + d % 10 ≡ d = omega arith in
          let both = leads_join ((48 + a) ∷ []) ((48 + d % 10) ∷ []) (first a (omega arith)) (second a (d % 10) (omega arith) (omega arith)) in
          subst (λ (j : ℕ). Goes before names ((48 + a) ∷ (48 + d % 10) ∷ []) (in_count j) names) m both

  -- the line feed
  feed_leads : (r : Row) (names : List ℕ) (t : Row) → length names ≡ room → is_start r.phase ≡ false → next r.phase Feed ≡ Over
      → fed_by room r 10 Feed Over ≡ t → t.phase ≡ Over
      → t.empty ≡ false → t.digits ≡ true → row_fault t ≡ None → s.count < 16 → Leads room (with_row s r) names (10 ∷ []) (taken s t) names
  unfolding sort_of
  feed_leads r names t long apart goes q is a b c d =
      leads_as (byte_leads room (with_row s r) names 10 long free (rw apart))
      (ap (λ (u : Row). entered (with_row s r) u) (fed_as room r 10 Feed Over refl goes ∙ q) ∙ entered_over (with_row s r) t is ∙ ended-taken (with_row s r) t a b c d)
      (kept_as (with_row s r) 10 Over names free goes)

  -- a line's text, from a row's start
  pub line_leads : (at : ℕ) (line : Line) (names : List ℕ) → s.row ≡ fresh at → length names ≡ room → at + length line.name ≤ room → s.count < 16
      → Good line
      → Leads room s names (line_text line) (taken s (row_of at line)) (sets names at line.name)
  unfolding line_text fed_by next
  line_leads at line names here long fits few g =
      let k : ℕ = at + length line.name in
      let x : ℕ = line.reading in
      let w : ℕ = 10 * (x / 100 % 10) + x / 10 % 10 in
      let all : List ℕ = sets names at line.name in
      let full : length all ≡ room = length-sets names at line.name ∙ long in
      let one = name_leads at line.name names long g.named fits in
      let two = micron_leads at k x all full in
      let three = lots_leads at k w (x % 10) line.lots all full (omega (arith, g.few)) in
      let four = feed_leads (counted Count true at k w (x % 10) line.lots) all (row_of at line) full refl refl refl refl refl refl (row_sound at line g) few in
      let rest : List ℕ = (micron_text x ++ 44 ∷ []) ++ (lots_text line.lots ++ 10 ∷ []) in
      let last = leads_join (lots_text line.lots) (10 ∷ []) three four in
      let y = leads_join (name_text line.name ++ 44 ∷ []) rest one (leads_join (micron_text x ++ 44 ∷ []) (lots_text line.lots ++ 10 ∷ []) two last) in
      let z = subst (λ (l : List ℕ). Leads room (with_row s (fresh at)) names l (taken s (row_of at line)) all) (append_assoc (name_text line.name) (44 ∷ []) rest) y in
      subst (λ (r : Row). Leads room (with_row s r) names (line_text line) (taken s (row_of at line)) all) (sym here) z
