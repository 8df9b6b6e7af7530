-- The one walk over a delivery, over any pool: has unit 1 stopped, is a message there, what does the step give, does it fit? Every proof about a delivery
-- goes by it, so that these tests are met here only and come as facts: `deliver_cases` up to the packet, `hand_cases` from there.
-- Assumes nothing.
use Rattle.std.specs.Prelude.{ℕ, ◌≡◌, refl, Bool, true, false, cond, List}
use Rattle.std.proofs.Math.Option.{Option, none, some}
use Rattle.costs.specs.declared.ValueOrder.{ValueOrder}
use Rattle.costs.specs.Instance.{Instance}
use Rattle.message.specs.Message.{Packet}
use Rattle.rules.specs.declared.Unit.{Unit as UnitState}
use Rattle.rules.specs.declared.Sending.{Sending}
use Rattle.rules.specs.Step as U
use Rattle.rules.specs.Step.{Decision, Written}
use Rattle.rules.specs.Send.{packets}
use Rattle.runs.specs.Run.{Pool, HistoryOf, DeliveryOf, refused_by, delivered, place_of, step_on, stopped, history_after, if_fits, by_decision, take_cell, deliver_in}

module _ (order : ValueOrder) {W : Type 0} (I : Instance) (H : HistoryOf W) (Q : DeliveryOf W → Type 0) where
  -- the step is accepted: what it sends doesn't fit, or w waits then
  abbrev pub OnAccepted : Packet → (List Packet → Option W) → Type 0
  OnAccepted p put = (u : UnitState) (s : Sending) (ws : List Written) → step_on order I H.units p ≡ U.accepted u s ws
      → (put (packets I.n (place_of p) s) ≡ none → Q (refused_by 14)) × ((w : W) → put (packets I.n (place_of p) s) ≡ some w → Q (delivered (history_after H p u (packets I.n (place_of p) s) ws w)))

  pub hand_cases : (p : Packet) (put : List Packet → Option W) → ((r : ℕ) → step_on order I H.units p ≡ U.refused r → Q (refused_by r)) → OnAccepted p put → Q (by_decision I H p put (step_on order I H.units p))
  hand_cases p put refuses accepts = go (step_on order I H.units p) refl
    where
      fits : (u : UnitState) (ps : List Packet) (ws : List Written) (x : Option W) → put ps ≡ x
          → (put ps ≡ none → Q (refused_by 14)) × ((w : W) → put ps ≡ some w → Q (delivered (history_after H p u ps ws w))) → Q (if_fits H p u ps ws x)
      fits u ps ws none e f = f.0 e
      fits u ps ws (some w) e f = f.1 w e

      go : (o : Decision) → step_on order I H.units p ≡ o → Q (by_decision I H p put o)
      go (U.refused r) e = refuses r e
      go (U.accepted u s ws) e = fits u (packets I.n (place_of p) s) ws (put (packets I.n (place_of p) s)) refl (accepts u s ws e)

  pub deliver_cases : (L : Pool W) (c : ℕ) → (stopped H ≡ true → Q (refused_by 12)) → (stopped H ≡ false → L.at H.waiting c ≡ none → Q (refused_by 15))
      → (stopped H ≡ false → (p : Packet) → L.at H.waiting c ≡ some p → Q (by_decision I H p (L.put (L.without H.waiting c)) (step_on order I H.units p))) → Q (deliver_in L order I H c)
  deliver_cases L c over gone there = go (stopped H) refl
    where
      cell : stopped H ≡ false → (x : Option Packet) → L.at H.waiting c ≡ x → Q (take_cell L order I H c x)
      cell st none e = gone st e
      cell st (some p) e = there st p e

      go : (t : Bool) → stopped H ≡ t → Q (cond t (refused_by 12) (take_cell L order I H c (L.at H.waiting c)))
      go true e = over e
      go false e = cell e (L.at H.waiting c) refl
