-- The calls as their code makes them: what was refused, the amount as it is found, and the costs that are left. Assumes nothing.
use Rattle.std.specs.Prelude.{ℕ, suc, pred, ◌+◌, ◌-◌, ◌≤◌, ◌<◌, ◌≡◌, refl, Bool, false, cond, not, ◌&&◌, List, eqb, ltb, length, set}
use Rattle.std.proofs.Common.{sym, ◌∙◌, arith, ne_eqb, lt-ltb, le-ltb, le-leb}
use Rattle.std.proofs.Math.Path.{ap}
use Rattle.std.proofs.Math.Bool.{true}
use Rattle.std.proofs.Math.ListN.{get_or}
use Rattle.std.proofs.lemmas.Bool.{lt-leb}
use Rattle.base.specs.Every.{every}
use Rattle.base.specs.Every.Laws.{every_at}
use Rattle.base.specs.Shape.{shape_good}
use Rattle.costs.specs.Instance.{dom_in}
use Rattle.projections.specs.declared.Moved.{Moved}
use Rattle.projections.specs.declared.Run.{Run}
use Rattle.projections.specs.declared.Found.{Found}
use Rattle.projections.specs.Held.{own_at, with_at, cost_count, barred, Held}
use Rattle.projections.specs.Moves.{change_each, lowered, raised, least_at, taken, row_taken, own_taken, projected, unary_projected, extended, lent_good, extend_fits, raise_fits, refusal_by, project_fits, row_there, project_refusal, unary_project_refusal, extend_refusal, outcome_by, answer_of, project_of, unary_project_of, extend_of}
use Rattle.projections.specs.Moves.Changed.{row_apart, own_is}
use Rattle.projections.specs.Steps.{run_place, RunOf, RowAt, Raisable, run_each, run-least, run-every, run-apart, fits_last}

-- ---- what is refused

-- a refusal before the amount is the first
first_stays : (a b c d e : Bool) → (◌≡◌ {A = ℕ} (cond (not a) 5 (cond (not b) 6 (cond (not c) 10 (cond (d && true) 0 19)))) 0 → ⊥)
    → ◌≡◌ {A = ℕ} (cond (not a) 5 (cond (not b) 6 (cond (not c) 10 (cond (d && true) 0 19)))) (cond (not a) 5 (cond (not b) 6 (cond (not c) 10 (cond (d && e) 0 19))))
first_stays true true true true e h = absurd (h refl)
first_stays true true true false e h = refl
first_stays true true false d e h = refl
first_stays true false c d e h = refl
first_stays false b c d e h = refl

pub refused-first : (n : ℕ) (sizes : List ℕ) (h : Held) (there fits : Bool) (r : ℕ) → r ≡ refusal_by n sizes h there true → (r ≡ 0 → ⊥) → r ≡ refusal_by n sizes h there fits
refused-first n sizes h there fits r e ne =
    e ∙ first_stays (shape_good n sizes) (eqb (length h.costs) (cost_count (dom_in n sizes) n)) there (lent_good (dom_in n sizes) n h) fits (λ z. ne (e ∙ z))

-- a refusal leaves all as lent; else what the move left is there
outcome-refused : (r' : ℕ) (lent left : Held) (r : ℕ) → r ≡ r' → (r ≡ 0 → ⊥) → (◌≡◌ {A = Moved} (record { refusal = r; floor = lent.floor }) (answer_of (outcome_by r' lent left))) × (lent.costs ≡ (outcome_by r' lent left).held.costs)
outcome-refused r' lent left r e ne =
    let q : eqb r' 0 ≡ false = ne_eqb r' 0 (λ z. ne (e ∙ z)) in
    (rw (q, e), rw q)

outcome_done : (r' : ℕ) (lent left : Held) (l : List ℕ) → r' ≡ 0 → l ≡ left.costs → (◌≡◌ {A = Moved} (record { refusal = 0; floor = left.floor }) (answer_of (outcome_by r' lent left))) × (l ≡ (outcome_by r' lent left).held.costs)
outcome_done r' lent left l e q = (rw e, rw e q)

-- ---- the amount as it is tested

pub over_left : (x more : ℕ) → x < barred → barred - x ≤ more → ltb (x + more) barred ≡ false
over_left x more h q = le-ltb (x + more) barred (omega arith)

pub under_left : (x more : ℕ) → more < barred - x → ltb (x + more) barred ≡ true
under_left x more q = lt-ltb (x + more) barred (omega arith)

pub amount_over : (n : ℕ) (sizes : List ℕ) (h : Held) (there fits : Bool) → refusal_by n sizes h there true ≡ 0 → fits ≡ false → 19 ≡ refusal_by n sizes h there fits
amount_over n sizes h there fits e f = sym (fits_last n sizes h there fits e ∙ ap (λ (t : Bool). cond t 0 19) f)

pub amount_fits : (n : ℕ) (sizes : List ℕ) (h : Held) (there fits : Bool) → refusal_by n sizes h there true ≡ 0 → fits ≡ true → refusal_by n sizes h there fits ≡ 0
amount_fits n sizes h there fits e f = fits_last n sizes h there fits e ∙ ap (λ (t : Bool). cond t 0 19) f

-- ---- a row, as it is found

module _ (n : ℕ) (sizes : List ℕ) (unit value other : ℕ) (h : Held) where
  abbrev dm : ℕ → ℕ
  dm = dom_in n sizes

  abbrev i : ℕ
  i = pred unit

  abbrev j : ℕ
  j = pred other

  abbrev there : Bool
  there = row_there n dm unit value other

  own_at_lem : {f : Found} → RowAt n sizes unit value other h f → get_or h.costs f.own 0 ≡ get_or h.costs (own_at dm i value) 0
  own_at_lem at = ap (λ (p : ℕ). get_or h.costs p 0) at.own

  -- ---- binary projection

  abbrev Projected : ℕ → List ℕ → Type 0
  Projected r l = (◌≡◌ {A = Moved} (record { refusal = r; floor = h.floor }) (answer_of (project_of n sizes unit value other h))) × (l ≡ (project_of n sizes unit value other h).held.costs)

  project_stays : (r : ℕ) → r ≡ project_refusal n sizes unit value other h → (r ≡ 0 → ⊥) → Projected r h.costs
  unfolding project_of
  project_stays r e ne = outcome-refused (project_refusal n sizes unit value other h) h (projected dm n i value j h) r e ne

  pub project_refused : (r : ℕ) → r ≡ refusal_by n sizes h there true → (r ≡ 0 → ⊥) → Projected r h.costs
  project_refused r first ne = project_stays r (refused-first n sizes h there (project_fits dm n i value j h) r first ne) ne

  module _ {f : Found} (at : RowAt n sizes unit value other h f) (amount : ℕ) (q : amount ≡ taken (least_at (run_place f.row) f.row.count h.costs)) where
    abbrev own : ℕ
    own = get_or h.costs f.own 0

    abbrev α : ℕ
    α = row_taken dm n i value j h.costs

    -- the amount that is found
    row-taken : amount ≡ α
    row-taken = q ∙ ap taken (run-least at.run h.costs)

    pub project_over : barred - own ≤ amount → Projected 19 h.costs
    project_over over =
        let fits : project_fits dm n i value j h ≡ false = rw (← own_at_lem at, ← row-taken) (over_left own amount at.small over) in
        project_stays 19 (amount_over n sizes h there (project_fits dm n i value j h) at.none fits) (λ c. omega arith)

    pub project_moves : amount < barred - own → (m : List ℕ) → m ≡ change_each (lowered amount) (run_place f.row) f.row.count h.costs → Projected 0 (set m f.own (own + amount))
    unfolding project_of projected
    project_moves under m w =
        let fits : project_fits dm n i value j h ≡ true = rw (← own_at_lem at, ← row-taken) (under_left own amount under) in
        let changed : m ≡ change_each (lowered α) (with_at dm n i value j) (dm j) h.costs = w ∙ run_each at.run (lowered amount) h.costs ∙ ap (λ (x : ℕ). change_each (lowered x) (with_at dm n i value j) (dm j) h.costs) row-taken in
        let sum : own + amount ≡ get_or m (own_at dm i value) 0 + α = rw (changed, own_is at.row h.costs at.count (lowered α) (λ x. x + α), own_at_lem at, row-taken) in
        outcome_done (project_refusal n sizes unit value other h) h (projected dm n i value j h) (set m f.own (own + amount)) (amount_fits n sizes h there (project_fits dm n i value j h) at.none fits)
        (rw (sum, at.own, changed))

  -- ---- extension

  module _ (part : ℕ) where
    abbrev Extended : ℕ → List ℕ → Type 0
    Extended r l = (◌≡◌ {A = Moved} (record { refusal = r; floor = h.floor }) (answer_of (extend_of n sizes unit value other part h))) × (l ≡ (extend_of n sizes unit value other part h).held.costs)

    extend_stays : (r : ℕ) → r ≡ extend_refusal n sizes unit value other part h → (r ≡ 0 → ⊥) → Extended r h.costs
    unfolding extend_of
    extend_stays r e ne = outcome-refused (extend_refusal n sizes unit value other part h) h (extended dm n i value j part h) r e ne

    pub extend_refused : (r : ℕ) → r ≡ refusal_by n sizes h there true → (r ≡ 0 → ⊥) → Extended r h.costs
    extend_refused r first ne = extend_stays r (refused-first n sizes h there (extend_fits dm n i value j part h) r first ne) ne

    module _ {f : Found} (at : RowAt n sizes unit value other h f) where
      abbrev kept : ℕ
      kept = get_or h.costs f.own 0

      pub part_over : kept < part → Extended 19 h.costs
      part_over over =
          let fits : extend_fits dm n i value j part h ≡ false = rw (← own_at_lem at, lt-leb part kept over) in
          extend_stays 19 (amount_over n sizes h there (extend_fits dm n i value j part h) at.none fits) (λ c. omega arith)

      -- whether the row can be raised
      module _ (fit : part ≤ kept) (t : Bool) (e : t ≡ every (λ k. raise_fits part (get_or h.costs (run_place f.row (suc k)) 0)) f.row.count) where
        row_fits : extend_fits dm n i value j part h ≡ t
        row_fits = rw (← own_at_lem at, le-leb part kept fit) (sym (e ∙ run-every at.run (raise_fits part) h.costs))

        pub pair_over : t ≡ false → Extended 19 h.costs
        pair_over over = extend_stays 19 (amount_over n sizes h there (extend_fits dm n i value j part h) at.none (row_fits ∙ over)) (λ c. omega arith)

        pub row_raisable : t ≡ true → Raisable f.row part h.costs
        row_raisable all =
            record {
              apart = run-apart at.run h.costs (row_apart at.row h.costs at.count);
              fits = λ v q.
                  let w : suc (v - 1) ≡ v = omega (arith, q.0) in
                  ap (λ (x : ℕ). raise_fits part (get_or h.costs (run_place f.row x) 0)) (sym w)
                  ∙ every_at (λ k. raise_fits part (get_or h.costs (run_place f.row (suc k)) 0)) f.row.count (sym e ∙ all) (v - 1) (omega (arith, q.0, q.1));
            }

        pub extend_moves : t ≡ true → (m : List ℕ) → m ≡ change_each (raised part) (run_place f.row) f.row.count h.costs → Extended 0 (set m f.own (kept - part))
        unfolding extend_of extended
        extend_moves all m w =
            let changed : m ≡ change_each (raised part) (with_at dm n i value j) (dm j) h.costs = w ∙ run_each at.run (raised part) h.costs in
            let rest : kept - part ≡ get_or m (own_at dm i value) 0 - part = rw (changed, own_is at.row h.costs at.count (raised part) (λ x. x - part), own_at_lem at) in
            outcome_done (extend_refusal n sizes unit value other part h) h (extended dm n i value j part h) (set m f.own (kept - part)) (amount_fits n sizes h there (extend_fits dm n i value j part h) at.none (row_fits ∙ all))
            (rw (rest, at.own, changed))

-- ---- unary projection

module _ (n : ℕ) (sizes : List ℕ) (h : Held) where
  abbrev dom : ℕ → ℕ
  dom = dom_in n sizes

  module _ (unit : ℕ) where
    pub unary_refused : (r : ℕ) → r ≡ unary_project_refusal n sizes unit h → (r ≡ 0 → ⊥)
        → (◌≡◌ {A = Moved} (record { refusal = r; floor = h.floor }) (answer_of (unary_project_of n sizes unit h))) × (h.costs ≡ (unary_project_of n sizes unit h).held.costs)
    unfolding unary_project_of
    unary_refused r e ne = outcome-refused (unary_project_refusal n sizes unit h) h (unary_projected dom (pred unit) h) r e ne

    pub unary_done : {run : Run} (amount : ℕ) (l : List ℕ) → RunOf (own_at dom (pred unit)) (dom (pred unit)) run → unary_project_refusal n sizes unit h ≡ 0 → amount ≡ own_taken dom (pred unit) h.costs
        → l ≡ change_each (lowered amount) (run_place run) run.count h.costs
        → (◌≡◌ {A = Moved} (record { refusal = 0; floor = h.floor + amount }) (answer_of (unary_project_of n sizes unit h))) × (l ≡ (unary_project_of n sizes unit h).held.costs)
    unfolding unary_project_of unary_projected
    unary_done amount l runs e a q =
        let left : Held = unary_projected dom (pred unit) h in
        let changed : l ≡ left.costs = q ∙ run_each runs (lowered amount) h.costs ∙ ap (λ (z : ℕ). change_each (lowered z) (own_at dom (pred unit)) (dom (pred unit)) h.costs) a in
        let d = outcome_done (unary_project_refusal n sizes unit h) h left l e changed in
        (ap (λ (z : ℕ). record { refusal = 0; floor = h.floor + z }) a ∙ d.0, d.1)

  pub own-taken : (i amount : ℕ) {run : Run} → RunOf (own_at dom i) (dom i) run → amount ≡ taken (least_at (run_place run) run.count h.costs) → amount ≡ own_taken dom i h.costs
  own-taken i amount runs q = q ∙ ap taken (run-least runs h.costs)
