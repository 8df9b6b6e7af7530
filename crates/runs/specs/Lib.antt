-- A network of units. The statement: counts, the run over messages, the calls on bytes, demand 3. The pool. What the proof in proofs/ goes by; packets heard twice; and how the code of network does
-- what the calls say.
pub mod Count
pub mod Digits
pub mod Run
pub mod Calls
pub mod Deliveries
pub mod Demand3
pub mod Pool
pub mod Proof
pub mod Echo
pub mod Lending
pub mod Made
pub mod Settle
pub mod Code
pub mod Trusted
pub mod Short
