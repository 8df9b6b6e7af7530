-- Demand 3 as one statement about a network that a run has come to. proofs/Theorem.antt proves it of every list of cells:
--
--     demand3     Laws P → 0 < P.n → (room : ℕ) (cells : List ℕ) → Demand3 P (run P room (make P) cells)
--     two_runs    of any two lists after which unit 1 has stopped, and any two rooms, the bounds are equal
--     counts_fit  with at most 16 units the records and the accepted deliveries are fewer than 2 ^ 128
--     progress    in a pool with room for n × n + n messages some cell's delivery is accepted until unit 1 stops
--
-- proofs/Oldest/Run.antt proves of deliveries of cell 0 alone, for a pool with room for 3 × (n × n + 3 × n) + n messages:
--
--     oldest_accepted  each is accepted until unit 1 stops
--     oldest_ends      after as many as demand 3 allows it has stopped
--
-- That no prefix is written twice is said of the records themselves: Simulation/Units.antt (`Matches`).
--
-- Read first: Problem.antt (what is asked of costs), Machine.antt (the rules), and this. The rest is proof, most of it in proofs/:
-- Lists, Tests, Walk            small facts; the ways through a step, a delivery and a run
-- Safety                        facts that only grow: about records written and messages ever sent, whatever the pool does
-- Liveness                      until unit 1 stops its CPA waits somewhere; the pool is any predicate on messages
-- Count                         each record pays for the deliveries that follow from it
-- Progress                      messages whose step sends more than one are few, so the pool never refuses all
-- Best                          for each bound there is one best, the first assignment with that total
-- Theorem                       the five together
-- Echo                          02, job 2: what of it holds where messages are heard twice
-- Air                           beside demand 3: boxes on radio, where messages go on arriving after unit 1 has stopped
-- Slots                         02, job 4: a message takes the cell of an older one of its kind, sender and receiver; the same holds then
-- Oldest                        delivered oldest first the pool is a queue, in rounds: each unit sends at most two CPAs in one
-- Assumes nothing.
use Rattle.std.specs.Prelude.{ℕ, zero, suc, ◌+◌, ◌*◌, ◌-◌, ◌≤◌, ◌≡◌, ◌≢◌, true, false, List, [], ◌++◌, map}
use Rattle.base.specs.Members.{In}
use Rattle.protocol.specs.Problem.{Problem, Full, ValidBound, Passed, N}
use Rattle.protocol.specs.Machine.{Msg, to, values_of, Agent, refused, step, Network}

-- the prefixes that units 0 to k - 1 have written. 01: "At each record unit i writes a beginning"
abbrev pub written : (ℕ → Agent) → ℕ → List (List ℕ)
written us zero = []
written us (suc k) = map values_of (us k).log ++ written us k

-- the most deliveries that follow from one record, and from all
abbrev pub most_each : Problem → ℕ
most_each P = 3 * P.n - 1

abbrev pub most : Problem → ℕ
most P = most_each P * N P

-- room in a pool with which it never refuses every message that waits
abbrev pub room_needed : Problem → ℕ
room_needed P = P.n * P.n + P.n

pub record Demand3 (P : Problem) (S : Network) : Type 0 where
  -- at most (3n - 1) × N deliveries are accepted, and with that many unit 1 has stopped
  pub bounded : S.accepted ≤ most P
  pub ends : S.accepted ≡ most P → (S.units 0).stopped ≡ true
  -- until unit 1 stops a message waits
  pub waits : (S.units 0).stopped ≡ false → (m : Msg) × In m S.pool
  -- once it has stopped it reports a least total: none, or that of its best assignment
  pub report : (S.units 0).stopped ≡ true → ValidBound P (S.units 0).bound (S.units 0).best
  pub least : (S.units 0).stopped ≡ true → (l : List ℕ) → Full P l → (S.units 0).bound ≤ P.cost l
  -- and the best is the first with that total, in the order tried: all before it costs more
  pub first : (S.units 0).stopped ≡ true → Passed P (S.units 0).best (suc (S.units 0).bound)
  -- no unit refuses a message that waits
  pub honest : (m : Msg) → In m S.pool → step P (S.units (to m)) m ≢ refused
