-- A delivery computed on 01's table T: unit 1 has its first CPA back and sends the next; its first request, which still waits, is overwritten by the second.
-- Assumes nothing.
use Rattle.std.specs.Prelude.{ℕ, ◌≡◌, refl, ◌≢◌, List, [], ◌∷◌}
use Rattle.std.proofs.Common.{inl, inr, arith}
use Rattle.base.specs.Limits.{pool_cells}
use Rattle.base.specs.Members.{In, here, there, Every}
use Rattle.base.specs.Members.Laws.{every_nil, every_cons}
use Rattle.costs.specs.declared.ValueOrder.TheVariants.{Ascending}
use Rattle.costs.specs.Order.{place_tried, value_at}
use Rattle.costs.specs.Laws.Tried.{problem_by}
use Rattle.protocol.specs.Problem.{Problem}
use Rattle.protocol.specs.Machine.{Msg, down, back, request, solution, Result, refused, done, step, Network, make, run}
use Rattle.protocol.specs.Cases.{T}
use Rattle.protocol.specs.Slots.Slot.{slot_of, NotNewer}
use Rattle.protocol.specs.Slots.Run.{Overwrites}

abbrev P : Problem
P = problem_by Ascending T

-- unit 1 has sent its CPA with value 1, and unit 2 has given it back: its totals are 5 and 3
abbrev S : Network
S = run P pool_cells (make P) (0 ∷ [])

abbrev asked : ℕ → Msg
asked v = request 1 0 v (v ∷ [])

abbrev comes_back : Msg
comes_back = back 0 1 (1 ∷ []) 3 (2 ∷ 1 ∷ [])

abbrev told : Msg
told = solution 0 3 (2 ∷ 1 ∷ [])

abbrev goes_down : Msg
goes_down = down 1 2 (2 ∷ []) 3 (2 ∷ 1 ∷ [])

abbrev sent_by : Result → List Msg
sent_by refused = []
sent_by (done u ms) = ms

pub waiting : S.pool ≡ asked 1 ∷ comes_back ∷ told ∷ []
unfolding place_tried value_at
waiting = refl

pub sends_next : sent_by (step P (S.units 0) comes_back) ≡ goes_down ∷ asked 2 ∷ []
unfolding place_tried value_at
sends_next = refl

-- what waits then
pub request_overwritten : Overwrites 2 (asked 1 ∷ comes_back ∷ told ∷ []) comes_back (goes_down ∷ asked 2 ∷ []) (told ∷ goes_down ∷ asked 2 ∷ [])
request_overwritten =
    record {
      only = every_cons _ told (goes_down ∷ asked 2 ∷ []) (inl (there (there (here refl)))) (λ x i. inr i);
      sent = λ x i. there i;
      stays =
          every_cons Stays (asked 1) (comes_back ∷ told ∷ []) (λ ne apart. absurd (apart (asked 2) (there (here refl)) refl))
          (every_cons Stays comes_back (told ∷ []) (λ ne apart. absurd (ne refl)) (every_cons Stays told [] (λ ne apart. here refl) (every_nil Stays)));
      weighs = λ f. omega arith;
    }
  where
    Stays : Msg → Type 0
    Stays x = x ≢ comes_back → Every (λ y. slot_of 2 y ≢ slot_of 2 x) (goes_down ∷ asked 2 ∷ []) → In x (told ∷ goes_down ∷ asked 2 ∷ [])

pub older_request : NotNewer (asked 1) (asked 2)
older_request = (omega arith, omega arith)
