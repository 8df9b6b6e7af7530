-- The messages of a plan, 01: "Outgoing order: paper first, the rest by receiver ascending", and their bytes in a buffer. Assumes nothing.
use Rattle.std.specs.Prelude.{ℕ, zero, suc, ◌*◌, ◌-◌, Bool, true, false, List, [], ◌∷◌, ◌++◌, length, drop}
use Rattle.base.specs.Limits.{message_size}
use Rattle.message.specs.{declared.Message.Message, declared.Kind.Kind, Message.Packet, Written.encode}
use Rattle.message.specs.declared.Kind.TheVariants.{Cpa, Request, Estimate, Solution, Stop}
use Rattle.rules.specs.{declared.Sending.Sending, declared.Plan.Plan, State.zeros}
use Rattle.rules.specs.declared.Plan.TheVariants.{Nothing, Forward, Back, Reply}

-- ---- one message, to the unit at place j

abbrev pub packet : Kind → Message → Packet
packet k m = record { kind = k; message = m }

abbrev pub with_receiver : ℕ → Message → Message
with_receiver r m = record { sender = m.sender; receiver = r; stamp = m.stamp; values = m.values; cost = m.cost; bound = m.bound; best = m.best }

abbrev pub sent_to : Kind → Message → ℕ → Packet
sent_to k m j = packet k (with_receiver (suc j) m)

-- a cpa carries all fields; a request no bound
abbrev pub without_bound : Message → Message
without_bound m = record { sender = m.sender; receiver = m.receiver; stamp = m.stamp; values = m.values; cost = m.cost; bound = 0; best = zeros }

-- solutions and stops carry only bound and best
abbrev pub bound_only : Message → Message
bound_only m = record { sender = m.sender; receiver = m.receiver; stamp = zeros; values = zeros; cost = 0; bound = m.bound; best = m.best }

-- ---- to several units

-- g lo, g (lo + 1), .., m of them
unfoldable pub each : (ℕ → Packet) → ℕ → ℕ → List Packet
each g lo zero = []
each g lo (suc m) = g lo ∷ each g (suc lo) m

-- 01: "Unit 1 stops and sends stop to all others; others send the paper to the unit before."
abbrev pub hand_back : ℕ → ℕ → Message → List Packet
hand_back n zero m = each (sent_to Stop (bound_only m)) 1 (n - 1)
hand_back n (suc k) m = sent_to Cpa m k ∷ []

-- 01: "unit n sends one news, after its last improvement in a step, to all others"
abbrev pub solutions : ℕ → ℕ → Bool → Message → List Packet
solutions n k true m = each (sent_to Solution (bound_only m)) 0 k ++ each (sent_to Solution (bound_only m)) (suc k) (n - suc k)
solutions n k false m = []

abbrev pub by_plan : ℕ → ℕ → Plan → Bool → Message → List Packet
by_plan n k Nothing b m = []
by_plan n k Forward b m = sent_to Cpa m (suc k) ∷ each (sent_to Request (without_bound m)) (suc k) (n - suc k)
by_plan n k Back b m = hand_back n k m ++ solutions n k b m
by_plan n k Reply b m = packet Estimate m ∷ []

-- What is sent, in order.
unfoldable pub packets : ℕ → ℕ → Sending → List Packet
packets n k s = by_plan n k s.plan s.improved s.message

-- ---- as bytes

-- the 64 bytes of a packet
abbrev pub packet_bytes : Packet → List ℕ
packet_bytes p = encode p.kind p.message

unfoldable pub encode_all : List Packet → List ℕ
encode_all [] = []
encode_all (p ∷ ps) = packet_bytes p ++ encode_all ps

-- The messages at the front of a buffer, 01: "An output's unused bytes stay."
unfoldable pub laid : List Packet → List ℕ → List ℕ
laid ps out = encode_all ps ++ drop (message_size * length ps) out
