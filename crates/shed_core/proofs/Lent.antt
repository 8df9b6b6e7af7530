-- The costs that gathering lends are the same whatever room it has, where it refuses nothing. By its definition. Assumes nothing.
use Rattle.std.proofs.Common.{◌≡◌, ℕ, pred, ◌≤◌, Bool, true, false, cond, eqb, List, [], length, take, drop, sym, refl, ap, ◌∙◌, take_at, eq-eqb, eqb-true}
use Rattle.base.specs.declared.Length.{Length}
use Rattle.costs.specs.Gather.{sizes_in, gather_refusal, gather_of, gather_into}
use Rattle.costs.specs.Gather.Checks.{Gatherable, gatherable}
use Rattle.costs.specs.Gathered.{gathered}
use Rattle.costs.specs.Gather.Sizes.{accepted-sizes-first}
use Rattle.costs.specs.Gather.Laws.{gathered-view}
use Rattle.costs.specs.declared.Seat.{Seat}
use Rattle.costs.specs.declared.ValueOrder.TheVariants.{CheapestFirst}
use Rattle.costs.specs.Instance.{View, lent_view, view_knowing, view_by, instance_of}
use Rattle.costs.specs.Knowing.{knowing_sees, knows_nothing}
use Rattle.costs.specs.Order.{place_tried}
use Rattle.table.specs.Stream.{units_of, stream_refusal, Accepted}
use Rattle.rules.specs.Laws.Trusted.{seat_at}
use Rattle.runs.specs.Calls.{lent_of}
use Rattle.runs.proofs.CodeLaws.{lent_is}

module _ (s : List ℕ) (own : ℕ) (l out : List ℕ) (g : Length) (told : g ≡ gather_of s own (length l)) (left : out ≡ gather_into s own l) (good : g.refusal ≡ 0) where
  unrefused : gather_refusal s own (length l) ≡ 0
  unrefused = go (eqb (gather_refusal s own (length l)) 0) refl (sym (ap (λ (x : Length). x.refusal) told) ∙ good)
    where
      go : (t : Bool) → eqb (gather_refusal s own (length l)) 0 ≡ t → (cond {A = Length} t (record { refusal = 0; length = length (gathered s own) }) (record { refusal = gather_refusal s own (length l); length = 0 })).refusal ≡ 0 → gather_refusal s own (length l) ≡ 0
      go true e z = eqb-true (gather_refusal s own (length l)) 0 e
      go false e z = z

  pub short_unit : Gatherable s own (length l)
  short_unit = gatherable s own (length l) unrefused

  pub short_front : take g.length out ≡ gathered s own
  short_front =
      let e : eqb (gather_refusal s own (length l)) 0 ≡ true = eq-eqb _ 0 unrefused in
      rw (told, left, e) (take_at (gathered s own) (drop (length (gathered s own)) l) (length (gathered s own)) refl)

  pub lent_short : take g.length out ≡ lent_of s own
  lent_short = short_front ∙ sym (lent_is s short_unit.accepted own short_unit.unit.0 short_unit.unit.1)

-- a stream that is not refused is accepted
pub accepts : (s : List ℕ) → stream_refusal s ≡ 0 → Accepted s
unfolding Accepted
accepts s e = e

-- the place of a value by rising h, in the costs gathered from a good stream
pub place-lent : (s : List ℕ) → Accepted s → (own : ℕ) → 1 ≤ own → own ≤ units_of s → (seat : Seat) → seat ≡ seat_at CheapestFirst own (units_of s) (sizes_in s) → (costs : List ℕ) → costs ≡ gathered s own
    → (v r : ℕ) → r ≡ place_tried (view_knowing seat costs []) v → r ≡ place_tried (view_by CheapestFirst (instance_of s) (pred own)) v
place-lent s ok own first last seat sits costs lent v r told =
    let w = lent_view CheapestFirst own (units_of s) (sizes_in s) (gathered s own) in
    told ∙ rw (sits, lent) (ap (λ (x : View). place_tried x v) (knowing_sees w [] (knows_nothing w) ∙ gathered-view CheapestFirst s ok own first last (sizes_in s) (accepted-sizes-first s ok)))
