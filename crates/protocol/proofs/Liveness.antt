-- See specs/Liveness.antt.
pub mod Chain
pub mod ChainStep
pub mod Effect
pub mod Moves
pub mod Run
