-- A list of deliveries on bytes follows the one over messages, whatever the pool, if each delivery does (`Delivers`): the invariant is kept, and what was handed over and how many were accepted are
-- the same. An invariant may speak of a third thing that moves along, as the machine does.
-- By induction on the list. Assumes nothing.
use Rattle.std.specs.Prelude.{ℕ, suc, ◌≡◌, refl, ◌⊎◌, Bool, cond, eqb, length}
use Rattle.std.proofs.Math.Path.{sym, ap}
use Rattle.std.proofs.Common.{◌∙◌, subst, inl, inr, arith, length-append, eq-eqb}
use mathlib.Core.List.{List, [], ◌∷◌, ◌++◌, append-nil, append_assoc, map}
use Rattle.std.proofs.lemmas.List.{length-map}
use Rattle.costs.specs.declared.ValueOrder.{ValueOrder}
use Rattle.costs.specs.Instance.{Instance}
use Rattle.rules.specs.Send.{packet_bytes}
use Rattle.runs.specs.Run.{Pool, HistoryOf, DeliveryOf, refused_by, delivered, stopped, onward, deliver_in, run_in}
use Rattle.runs.specs.Deliveries.{Delivery, deliver_all, accepted_in, handed_in}
use Rattle.runs.specs.Deliveries.Laws.{accepted_length}

-- the number of a refusal, 0 where the delivery was accepted
abbrev pub number_of : {W : Type 0} → DeliveryOf W → ℕ
number_of (refused_by r) = r
number_of (delivered K) = 0

-- a refusal is one of those that a run gives, by whether unit 1 has stopped
abbrev pub HonestBy : {W : Type 0} → (Bool → ℕ → Type 0) → HistoryOf W → DeliveryOf W → Type 0
HonestBy Q H (refused_by r) = Q (stopped H) r
HonestBy Q H (delivered K) = Unit {0}

module _ {S W A : Type 0} (D : Delivery S) (L : Pool W) (order : ValueOrder) (I : Instance) (move : A → ℕ → A) (Honest : Bool → ℕ → Type 0) (Inv : S → HistoryOf W → A → Type 0) where
  -- the delivery of the cell c to s: over messages it gives d, on bytes the number r and the shed t
  pub record Delivers (s : S) (H : HistoryOf W) (a : A) (c : ℕ) (d : DeliveryOf W) (r : ℕ) (t : S) : Type 0 where
    pub number : r ≡ number_of d
    pub honest : HonestBy Honest H d
    pub bytes : map packet_bytes H.handed ++ cond (eqb r 0) (D.bytes s c ∷ []) [] ≡ map packet_bytes (onward H d).handed
    pub next : Inv t (onward H d) (move a c)

  abbrev pub Each : Type 0
  Each = (s : S) (H : HistoryOf W) (a : A) → Inv s H a → (c : ℕ) → Delivers s H a c (deliver_in L order I H c) (D.refusal s c) (D.after s c)

  abbrev pub moved : A → List ℕ → A
  moved a [] = a
  moved a (c ∷ cs) = moved (move a c) cs

  module _ (each : Each) where
    -- ---- from any point

    record Ran (s : S) (H : HistoryOf W) (a : A) (cs : List ℕ) : Type 0 where
      invariant : Inv (deliver_all D s cs) (run_in L order I H cs) (moved a cs)
      bytes : map packet_bytes H.handed ++ handed_in D s cs ≡ map packet_bytes (run_in L order I H cs).handed

    ran : (cs : List ℕ) (s : S) (H : HistoryOf W) (a : A) → Inv s H a → Ran s H a cs
    unfolding deliver_all run_in handed_in
    ran [] s H a i = record { invariant = i; bytes = append-nil (map packet_bytes H.handed) }
    ran (c ∷ cs) s H a i =
        let d = each s H a i c in
        let r = ran cs (D.after s c) (onward H (deliver_in L order I H c)) (move a c) d.next in
        record {
          invariant = r.invariant;
          bytes =
              sym (append_assoc (map packet_bytes H.handed) (cond (eqb (D.refusal s c) 0) (D.bytes s c ∷ []) []) (handed_in D (D.after s c) cs))
              ∙ ap (λ l. l ++ handed_in D (D.after s c) cs) d.bytes ∙ r.bytes;
        }

    -- ---- from a start where nothing was handed over

    module _ (s : S) (H : HistoryOf W) (a : A) (i : Inv s H a) (none : H.handed ≡ []) (cs : List ℕ) where
      pub kept : Inv (deliver_all D s cs) (run_in L order I H cs) (moved a cs)
      kept = (ran cs s H a i).invariant

      pub taken : handed_in D s cs ≡ map packet_bytes (run_in L order I H cs).handed
      taken = ap (λ l. map packet_bytes l ++ handed_in D s cs) (sym none) ∙ (ran cs s H a i).bytes

      pub counted : accepted_in D s cs ≡ length (run_in L order I H cs).handed
      counted = accepted_length D s cs ∙ ap length taken ∙ length-map (run_in L order I H cs).handed packet_bytes

    -- ---- one delivery

    module _ (s : S) (H : HistoryOf W) (a : A) (i : Inv s H a) (c : ℕ) where
      pub honest_next : (D.refusal s c ≡ 0) ⊎ Honest (stopped H) (D.refusal s c)
      honest_next = subst (λ r. (r ≡ 0) ⊎ Honest (stopped H) r) (sym (each s H a i c).number) (go (deliver_in L order I H c) (each s H a i c).honest)
        where
          go : (d : DeliveryOf W) → HonestBy Honest H d → (number_of d ≡ 0) ⊎ Honest (stopped H) (number_of d)
          go (refused_by r) h = inr h
          go (delivered K) h = inl refl

      -- an accepted one hands over one packet more
      pub one_more : D.refusal s c ≡ 0 → length (onward H (deliver_in L order I H c)).handed ≡ suc (length H.handed)
      one_more e =
          let x = each s H a i c in
          let h : List (List ℕ) = map packet_bytes H.handed in
          let one = ap (λ t. length (h ++ cond t (D.bytes s c ∷ []) [])) (sym (eq-eqb (D.refusal s c) 0 e)) ∙ ap length x.bytes in
          omega (arith, one, length-append h (D.bytes s c ∷ []), length-map H.handed packet_bytes, length-map (onward H (deliver_in L order I H c)).handed packet_bytes)
