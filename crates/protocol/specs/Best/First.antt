-- Definitions. What is proved of them, and by them, is in proofs/Best/First.antt. Assumes nothing.
use Rattle.std.specs.Prelude.{ℕ, suc, ◌<◌, pred, List}
use Rattle.base.specs.Members.{In}
use Rattle.protocol.specs.Problem.{Problem, Passed}
use Rattle.protocol.specs.Machine.{Record, values_of, Network}
use Rattle.protocol.specs.Best.Pairs.{Seen}

-- all before a best costs more than its bound; all before a prefix that a unit, not the last, has written costs at least unit n's bound
pub record First (P : Problem) (S : Network) : Type 0 where
  pub pairs : (B : ℕ) (l : List ℕ) → Seen P S B l → Passed P l (suc B)
  pub records : (k : ℕ) → suc k < P.n → (r : Record) → In r (S.units k).log → Passed P (values_of r) (S.units (pred P.n)).bound
