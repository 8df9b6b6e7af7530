-- Laws of lists of deliveries: as many are accepted as hand over something; and where one is accepted at each point before the end, and only so many are in all, every list goes on to
-- the end. By induction on the list, and on how many are left. Assumes nothing.
use Rattle.std.specs.Prelude.{ℕ, zero, suc, ◌+◌, ◌≤◌, ◌≡◌, Bool, eqb}
use Rattle.std.proofs.Math.Path.{refl, ap}
use Rattle.std.proofs.Common.{sym, subst, arith, eq-eqb}
use Rattle.std.proofs.Math.Bool.{true, false, cond}
use mathlib.Core.List.{List, [], ◌∷◌, ◌++◌, append-nil, append_assoc}
use Rattle.std.proofs.Math.ListN.{length, length-append}
use Rattle.runs.specs.Deliveries.{Delivery, deliver_all, accepted_in, handed_in}

module _ {S : Type 0} (D : Delivery S) where
  pub accepted_length : (s : S) (cs : List ℕ) → accepted_in D s cs ≡ length (handed_in D s cs)
  unfolding accepted_in handed_in
  accepted_length s [] = refl
  accepted_length s (c ∷ cs) =
      omega (arith, one (eqb (D.refusal s c) 0), accepted_length (D.after s c) cs, length-append (cond (eqb (D.refusal s c) 0) (D.bytes s c ∷ []) []) (handed_in D (D.after s c) cs))
    where
      one : (t : Bool) → length (cond t (D.bytes s c ∷ []) []) ≡ cond t 1 0
      one true = refl
      one false = refl

  -- one delivery more
  accepted_more : (s : S) (cs : List ℕ) (c : ℕ) → D.refusal (deliver_all D s cs) c ≡ 0 → accepted_in D s (cs ++ (c ∷ [])) ≡ suc (accepted_in D s cs)
  unfolding deliver_all accepted_in
  accepted_more s [] c e = omega (arith, ap (λ t. cond {A = ℕ} t 1 0) (eq-eqb (D.refusal s c) 0 e))
  accepted_more s (d ∷ cs) c e = omega (arith, accepted_more (D.after s d) cs c e)

  -- ---- the end

  module _ (over : S → Bool) (s : S) (most : ℕ) (bounded : (cs : List ℕ) → accepted_in D s cs ≤ most) (ends : (cs : List ℕ) → accepted_in D s cs ≡ most → over (deliver_all D s cs) ≡ true)
      (progress : (cs : List ℕ) → over (deliver_all D s cs) ≡ false → (c : ℕ) × (D.refusal (deliver_all D s cs) c ≡ 0)) where
    abbrev GoesOn : List ℕ → Type 0
    GoesOn cs = (ds : List ℕ) × (over (deliver_all D s (cs ++ ds)) ≡ true)

    pub goes_on : (cs : List ℕ) → (ds : List ℕ) × (over (deliver_all D s (cs ++ ds)) ≡ true)
    goes_on cs = go most cs (omega arith)
      where
        ended : (cs : List ℕ) → over (deliver_all D s cs) ≡ true → GoesOn cs
        ended cs e = ([], subst (λ l. over (deliver_all D s l) ≡ true) (sym (append-nil cs)) e)

        more : (cs : List ℕ) → ((c : ℕ) → accepted_in D s (cs ++ (c ∷ [])) ≡ suc (accepted_in D s cs) → GoesOn (cs ++ (c ∷ []))) → (t : Bool) → over (deliver_all D s cs) ≡ t → GoesOn cs
        more cs ih true e = ended cs e
        more cs ih false e =
            let p = progress cs e in
            let q = ih p.0 (accepted_more s cs p.0 p.1) in
            (p.0 ∷ q.0, subst (λ l. over (deliver_all D s l) ≡ true) (append_assoc cs (p.0 ∷ []) q.0) q.1)

        go : (left : ℕ) (cs : List ℕ) → most ≤ accepted_in D s cs + left → GoesOn cs
        go zero cs h = ended cs (ends cs (omega (arith, h, bounded cs)))
        go (suc left) cs h = more cs (λ c a. go left (cs ++ (c ∷ [])) (omega (arith, h, a))) (over (deliver_all D s cs)) refl
