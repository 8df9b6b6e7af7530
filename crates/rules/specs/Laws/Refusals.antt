-- A refusal has a number: reading and responding never give 0 for one, so a 0 means that the message was accepted. And assigning refuses nothing.
-- By the walk through what a unit decides, and the numbers of the refusals. Assumes nothing.
use Rattle.std.specs.Prelude.{ℕ, ◌≤◌, List, Result, Ok, Err}
use Rattle.std.proofs.Common.{arith}
use Rattle.base.specs.declared.Refusal.{Refusal}
use Rattle.base.specs.Refusal.{number_of}
use Rattle.base.specs.Refusal.Laws.{number_some}
use Rattle.costs.specs.Instance.{View}
use Rattle.message.specs.declared.Message.{Message}
use Rattle.message.specs.declared.Kind.{Kind}
use Rattle.message.specs.Decode.{parse_for}
use Rattle.rules.specs.declared.Unit.{Unit as State}
use Rattle.rules.specs.Step.{Decision, refused, accepted, Written, recorded, backtrack, assign, respond}
use Rattle.rules.specs.Laws.Walk.{assign_by, respond_by}
use Rattle.rules.specs.Calls.{on_read}

abbrev pub Numbered : Decision → Type 0
Numbered (refused r) = 1 ≤ r
Numbered (accepted u s ws) = Unit {0}

abbrev pub Accepts : Decision → Type 0
Accepts (refused r) = ⊥
Accepts (accepted u s ws) = Unit {0}

-- ---- deciding

pub assign_accepts : (w : View) (u : State) → Accepts (assign w u)
unfolding backtrack
assign_accepts w u = assign_by w Accepts (λ u. tt) (λ b u l. tt) more u
  where
    more : (r : Written) (o : Decision) → Accepts o → Accepts (recorded r o)
    more r (refused x) a = a
    more r (accepted u s ws) a = tt

respond_numbered : (w : View) (k : Kind) (u : State) (m : Message) → Numbered (respond w k u m)
unfolding backtrack
respond_numbered w k u m = respond_by w Numbered (λ u. tt) (λ b u l. tt) more (λ r l. l) (λ u. tt) (λ u m. tt) k u m
  where
    more : (r : Written) (o : Decision) → Numbered o → Numbered (recorded r o)
    more r (refused x) a = a
    more r (accepted u s ws) a = tt

-- ---- reading

abbrev pub NumberedRead : Result (Kind × Message) Refusal → Type 0
NumberedRead (Ok p) = Unit {0}
NumberedRead (Err r) = 1 ≤ number_of r

numbered : (a : Result (Kind × Message) Refusal) → NumberedRead a
numbered (Ok p) = tt
numbered (Err r) = omega (arith, number_some r)

pub parse_numbered : (n : ℕ) (sizes : List ℕ) (own : ℕ) (s : List ℕ) → NumberedRead (parse_for n sizes own s)
parse_numbered n sizes own s = numbered (parse_for n sizes own s)

-- ---- both

pub read_numbered : (w : View) (u : State) (a : Result (Kind × Message) Refusal) → NumberedRead a → Numbered (on_read w u a)
read_numbered w u (Ok (k, m)) f = respond_numbered w k u m
read_numbered w u (Err r) f = f
