-- Boxes on the air: n sealed boxes on radio. Messages go on arriving after unit 1 has stopped, in any order, until each unit has got its stop.
-- proofs/Air/Theorem.antt proves, for `Laws P` and `0 < P.n`:
--
--     on_air          (positions : List ℕ) → OnAir P (air P (make P) positions)
--     most_on_air_le  that is at most (3n - 1) × N + (n - 1) deliveries
--
-- Read first: Run.antt (an event, a run, and `OnAir`, what is claimed). The rest is proof, the theorems in proofs/Air, over Safety, Liveness, Count and Best, which speak of any pool:
-- Stops      who has stopped has unit 1's bound and best; who has not has its stop in the air
-- Tally      the stops are counted beside Count's weights
-- Theorem    these together
-- Cases      runs that reach the most deliveries there can be
pub mod Run
pub mod Stops
pub mod Tally
pub mod Theorem
pub mod Cases
