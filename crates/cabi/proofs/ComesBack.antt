-- What a call leaves as it was comes back as lent, a byte that is no flag too. Assumes nothing.
use Rattle.std.specs.Prelude.{ℕ, ◌<◌, ◌≡◌, refl, Bool, true, false, List, eqb, length, get_or, set}
use Rattle.std.proofs.Common.{sym, ◌∙◌, ap, arith, eqb-true, length-set, get_or-set_same, get_or-set_other}
use Rattle.std.proofs.lemmas.Bool.{eqb-false}
use Rattle.rules.specs.declared.Unit.{Unit}
use Rattle.rules.specs.State.{empty_unit}
use Rattle.cabi.specs.declared.LentUnit.{LentUnit}
use Rattle.cabi.specs.Lent.{unit_from, unit_back, empty_lent, units_from, units_back}
use Rattle.cabi.specs.Lent.Laws.{comes_back, length_up_to, up_to_at, up_to_of}

module _ (ss : List LentUnit) (sixteen : length ss ≡ 16) where
  kept : (us : List Unit) (i : ℕ) → i < 16 → get_or us i empty_unit ≡ get_or (units_from ss) i empty_unit → unit_back (get_or ss i empty_lent) (get_or us i empty_unit) ≡ get_or ss i empty_lent
  kept us i h e = ap (λ (u : Unit). unit_back (get_or ss i empty_lent) u) (e ∙ up_to_at 16 (λ (k : ℕ). unit_from (get_or ss k empty_lent)) i empty_unit h) ∙ comes_back (get_or ss i empty_lent)

  by_places : (us : List Unit) (ts : List LentUnit) → length ts ≡ 16 → ((i : ℕ) → i < 16 → unit_back (get_or ss i empty_lent) (get_or us i empty_unit) ≡ get_or ts i empty_lent) → units_back ss us ≡ ts
  by_places us ts l each = sym (up_to_of 16 (λ k. unit_back (get_or ss k empty_lent) (get_or us k empty_unit)) ts empty_lent l (λ i h. sym (each i h)))

  -- a network that no call changes comes back as it was lent
  pub all_come_back : units_back ss (units_from ss) ≡ ss
  all_come_back = by_places (units_from ss) ss sixteen (λ i h. kept (units_from ss) i h refl)

  -- all units but the one that a call changes come back as they were lent, those past n too
  pub others_come_back : (j : ℕ) (u : Unit) → j < 16 → units_back ss (set (units_from ss) j u) ≡ set ss j (unit_back (get_or ss j empty_lent) u)
  others_come_back j u h = by_places (set (units_from ss) j u) (set ss j back) (length-set ss j back ∙ sixteen) (λ i hi. each i hi (eqb i j) refl)
    where
      back : LentUnit
      back = unit_back (get_or ss j empty_lent) u

      each : (i : ℕ) → i < 16 → (t : Bool) → eqb i j ≡ t → unit_back (get_or ss i empty_lent) (get_or (set (units_from ss) j u) i empty_unit) ≡ get_or (set ss j back) i empty_lent
      each i hi true e =
          let long : length (units_from ss) ≡ 16 = length_up_to 16 (λ (k : ℕ). unit_from (get_or ss k empty_lent)) in
          rw (eqb-true i j e, get_or-set_same (units_from ss) j u empty_unit (omega (arith, long)), get_or-set_same ss j back empty_lent (omega (arith, sixteen)))
      each i hi false e = kept (set (units_from ss) j u) i hi (get_or-set_other (units_from ss) j i u empty_unit (eqb-false i j e)) ∙ sym (get_or-set_other ss j i back empty_lent (eqb-false i j e))
