-- Slots: a message has one by its kind, its sender and its receiver.
--
-- In order: the slot of a message; lists no two of which share one; the slots that the rules allow; what is not newer.
-- Assumes nothing.
use Rattle.std.specs.Prelude.{ℕ, zero, suc, ◌≤◌, ◌<◌, pred, ◌≡◌, ◌≢◌, ◌⊎◌, List, [], ◌∷◌}
use Rattle.base.specs.Members.{Every}
use Rattle.protocol.specs.Machine.{Msg, down, back, request, estimate, solution, stop, to}

-- ---- the slot of a message

-- 01: "0 kind (1 paper, 2 copy, 3 estimate, 4 news, 5 stop)". A CPA is one kind: its direction follows from sender and receiver.
abbrev pub kind_of : Msg → ℕ
kind_of (down k s b B l) = 1
kind_of (back k s b B l) = 1
kind_of (request k j s b) = 2
kind_of (estimate k j s e) = 3
kind_of (solution k B l) = 4
kind_of (stop k B l) = 5

-- the sender, of n units: a solution is the last unit's, a stop unit 0's
abbrev pub from : ℕ → Msg → ℕ
from n (down k s b B l) = pred k
from n (back k s b B l) = suc k
from n (request k j s b) = j
from n (estimate k j s e) = j
from n (solution k B l) = pred n
from n (stop k B l) = 0

pub record Slot : Type 0 where
  pub kind : ℕ
  pub sender : ℕ
  pub receiver : ℕ

abbrev pub slot_of : ℕ → Msg → Slot
slot_of n m = record { kind = kind_of m; sender = from n m; receiver = to m }

pub slot_path : (s t : Slot) → s.kind ≡ t.kind → s.sender ≡ t.sender → s.receiver ≡ t.receiver → s ≡ t
slot_path s t a b c = λ i. record { kind = a i; sender = b i; receiver = c i }

-- no two of a list share a slot
abbrev pub Apart : ℕ → List Msg → Type 0
Apart n [] = Unit {0}
Apart n (y ∷ ms) = Every (λ z. slot_of n z ≢ slot_of n y) ms × Apart n ms

-- ---- the slots that the rules allow, of n units. 01, 'Radio message': who sends which kind to whom

-- kind, sender, receiver
abbrev pub MaySend : ℕ → ℕ → ℕ → ℕ → Type 0
MaySend n zero i j = ⊥
MaySend n (suc zero) i j = (j ≡ suc i) ⊎ (i ≡ suc j)  -- 1, a CPA going down or back
MaySend n (suc (suc zero)) i j = i < j  -- 2, a request
MaySend n (suc (suc (suc zero))) i j = j < i  -- 3, an estimate
MaySend n (suc (suc (suc (suc zero)))) i j = (suc i ≡ n) × (j < i)  -- 4, a solution
MaySend n (suc (suc (suc (suc (suc zero))))) i j = (i ≡ 0) × (1 ≤ j)  -- 5, a stop
MaySend n (suc (suc (suc (suc (suc (suc c)))))) i j = ⊥

abbrev pub Allowed : ℕ → Slot → Type 0
Allowed n s = (s.sender < n) × (s.receiver < n) × MaySend n s.kind s.sender s.receiver

-- ---- what is not newer. 02: "by stamp, or by lower bound for news"

-- the stamp, 0 where the kind has none
abbrev pub stamp_in : Msg → ℕ
stamp_in (down k s b B l) = s
stamp_in (back k s b B l) = s
stamp_in (request k j s b) = s
stamp_in (estimate k j s e) = s
stamp_in (solution k B l) = 0
stamp_in (stop k B l) = 0

-- the bound of a solution
abbrev pub solution_in : Msg → ℕ
solution_in (down k s b B l) = 0
solution_in (back k s b B l) = 0
solution_in (request k j s b) = 0
solution_in (estimate k j s e) = 0
solution_in (solution k B l) = B
solution_in (stop k B l) = 0

-- of two messages of one slot: x is not newer than y
abbrev pub NotNewer : Msg → Msg → Type 0
NotNewer x y = (stamp_in x ≤ stamp_in y) × (solution_in y ≤ solution_in x)
