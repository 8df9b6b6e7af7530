-- Packets heard twice (02, job 2): any message that was ever sent may be handed over again, any number of times. proofs/Echo/Theorem.antt proves, of every list of
-- events in which every echoed message was sent before it (`Echoes`):
--
--     heard-twice             Laws P → 0 < P.n → (room : ℕ) (es : List Event) → Echoes P room (start P) es → HeardTwice P (hear_all P room (start P) es)
--     two-heard               of any two such lists after which unit 1 has stopped, and any two rooms, the bounds are equal
--     records_few             with at most 16 units the records are fewer than 2 ^ 128
--     deliveries_only         a list without echoes is a run of Machine.antt,
--     demand3_without-echoes  of which demand 3 holds, limit included
--
-- Read first: Events, the events and the statement. The rest is proof, in proofs/Echo:
-- Behind                    a CPA that was given back stays behind its sender: so a CPA that is sent was never sent before
-- Run                       what an event keeps: over all that was ever sent what a delivery keeps, and the live chain's CPA was never handed over
-- Theorem                   the statement read off it
-- Packets                   a packet is one message only, so what was never handed over is a packet that wasn't
pub mod Events
pub mod Behind
pub mod Run
