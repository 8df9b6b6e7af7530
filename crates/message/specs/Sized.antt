-- What the types of the code say of a message. The theorems of RoundTrip take it; no definition does. Assumes nothing.
use Rattle.std.specs.Prelude.{◌^◌, ◌<◌, ◌≡◌, length}
use Rattle.base.specs.Limits.{places}
use Rattle.message.specs.declared.Message.{Message}

pub record Sized (m : Message) : Type 0 where
  pub stamp : length m.stamp ≡ places
  pub values : length m.values ≡ places
  pub best : length m.best ≡ places
  pub cost : m.cost < 2 ^ 32
  pub bound : m.bound < 2 ^ 32
