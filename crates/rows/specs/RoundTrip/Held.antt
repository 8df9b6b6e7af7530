-- Lines that a sheet holds: a row that is taken adds its own behind them, and bytes of later names leave them alone. By induction on the lists
-- that they are cut from. Assumes nothing.
use Prim.Native.Nat.{ℕ, zero, suc, ◌+◌, ◌-◌, ◌≤◌, ◌<◌}
use Rattle.std.specs.Prelude.{◌≡◌, refl, length, set, drop}
use Rattle.std.proofs.Math.Path.{sym, ap}
use Rattle.std.proofs.Common.{subst, ◌∙◌, zero-add, suc-add, add-one, length-set, take-take, take-suc-set, drop-drop}
use mathlib.Core.List.{List, [], ◌∷◌, ◌++◌}
use native.Mathlib.Omega.{arith}
use Rattle.std.proofs.Math.ListN.{take}
use Rattle.std.proofs.Math.Seq.{take-nil, length-take-le}
use Rattle.rows.specs.declared.Entry.{Entry}
use Rattle.rows.specs.declared.Row.{Row}
use Rattle.rows.specs.declared.Sheet.{Sheet}
use Rattle.rows.specs.Sheet.{reading, taken}
use Rattle.rows.specs.Lines.{Line, cut, lines_in}

-- ---- names one behind the other

-- how many bytes the names of these entries have together
abbrev pub total : List Entry → ℕ
total [] = 0
total (e ∷ l) = e.length + total l

total_more : (l : List Entry) (e : Entry) → total (l ++ e ∷ []) ≡ total l + e.length
total_more [] e = omega arith
total_more (x ∷ l) e = omega (arith, total_more l e)

drop_take : (n t : ℕ) (l : List ℕ) → drop n (take (n + t) l) ≡ take t (drop n l)
drop_take zero t l = rw (zero-add t)
drop_take (suc n) t [] = rw (take-nil {A = ℕ} (suc n + t), take-nil {A = ℕ} t)
drop_take (suc n) t (x ∷ l) = rw (suc-add n t) (drop_take n t l)

-- ---- lines cut from lists

-- the line of an entry whose name begins at this place
abbrev line_at : Entry → ℕ → List ℕ → Line
line_at e at names = record { name = take e.length (drop at names); reading = e.reading; lots = e.lots }

cut_more : (entries : List Entry) (e : Entry) (names : List ℕ) → cut (entries ++ e ∷ []) names ≡ cut entries names ++ line_at e (total entries) names ∷ []
unfolding cut
cut_more [] e names = refl
cut_more (x ∷ l) e names =
    let line : Line = record { name = take x.length names; reading = x.reading; lots = x.lots } in
    let behind : List ℕ → List Line = λ rest. line ∷ (cut l (drop x.length names) ++ record { name = take e.length rest; reading = e.reading; lots = e.lots } ∷ []) in
    ap (λ (rest : List Line). line ∷ rest) (cut_more l e (drop x.length names)) ∙ ap behind (drop-drop (total l) x.length names)

-- lines are cut from as many bytes as their names have
cut_same : (entries : List Entry) (x y : List ℕ) → take (total entries) x ≡ take (total entries) y → cut entries x ≡ cut entries y
unfolding cut
cut_same [] x y e = refl
cut_same (n ∷ l) x y e =
    let t : ℕ = n.length + total l in
    let name : take n.length x ≡ take n.length y = sym (take-take n.length t x (omega arith)) ∙ ap (take n.length) e ∙ take-take n.length t y (omega arith) in
    let rest : take (total l) (drop n.length x) ≡ take (total l) (drop n.length y) =
    sym (drop_take n.length (total l) x) ∙ ap (drop n.length) e ∙ drop_take n.length (total l) y in
    rw (name, cut_same l (drop n.length x) (drop n.length y) rest)

cut_length : (entries : List Entry) (names : List ℕ) → length (cut entries names) ≡ length entries
unfolding cut
cut_length [] names = refl
cut_length (e ∷ l) names = ap suc (cut_length l (drop e.length names))

-- ---- lines of a sheet

-- a line of wool that a row can be: it has a name, 10.0 to 40.0 microns, 1 to 16 lots
pub record Good (line : Line) : Type 0 where
  pub named : 0 < length line.name
  pub least : 100 ≤ line.reading
  pub most : line.reading ≤ 400
  pub some : 1 ≤ line.lots
  pub few : line.lots ≤ 16

-- a sheet has room for 16 lines, and the row's name begins behind the names of the lines
pub record Laid (s : Sheet) : Type 0 where
  pub room : length s.entries ≡ 16
  pub few : s.count ≤ 16
  pub behind : total (take s.count s.entries) ≡ s.row.start

pub lines_count : (s : Sheet) (names : List ℕ) → Laid s → length (lines_in s names) ≡ s.count
unfolding lines_in
lines_count s names p = cut_length (take s.count s.entries) names ∙ length-take-le s.count s.entries (omega (arith, p.few, p.room))

-- what stands where the row's name begins, or behind that, is no part of them
pub lines_same : (s : Sheet) (x y : List ℕ) → Laid s → take s.row.start x ≡ take s.row.start y → lines_in s x ≡ lines_in s y
unfolding lines_in
lines_same s x y p e = cut_same (take s.count s.entries) x y (subst (λ (k : ℕ). take k x ≡ take k y) (sym p.behind) e)

-- the line of a row
abbrev pub line_by : Row → List ℕ → Line
line_by r names = record { name = take (r.solid - r.start) (drop r.start names); reading = reading r; lots = r.lots }

take_one : (l : List Entry) (k : ℕ) (e : Entry) → k < length l → take (k + 1) (set l k e) ≡ take k l ++ e ∷ []
take_one l k e h = ap (λ (j : ℕ). take j (set l k e)) (add-one k) ∙ take-suc-set l k e h

module _ (s : Sheet) (r : Row) (p : Laid s) (few : s.count < 16) (at : r.start ≡ s.row.start) where
  abbrev entry : Entry
  entry = record { length = r.solid - r.start; reading = reading r; lots = r.lots }

  one_more : take (s.count + 1) (set s.entries s.count entry) ≡ take s.count s.entries ++ entry ∷ []
  one_more = take_one s.entries s.count entry (omega (arith, p.room))

  pub taken_lines : (names : List ℕ) → lines_in (taken s r) names ≡ lines_in s names ++ line_by r names ∷ []
  unfolding lines_in
  taken_lines names =
      let y : total (take s.count s.entries) ≡ r.start = p.behind ∙ sym at in
      ap (λ (l : List Entry). cut l names) one_more
      ∙ cut_more (take s.count s.entries) entry names
      ∙ ap (λ (k : ℕ). lines_in s names ++ line_at entry k names ∷ []) y

  pub taken-laid : r.start ≤ r.solid → Laid (taken s r)
  taken-laid h =
      let b = total_more (take s.count s.entries) entry in
      let c = p.behind in
      record { room = length-set s.entries s.count entry ∙ p.room; few = omega arith; behind = ap total one_more ∙ omega (arith, b, c, at) }
