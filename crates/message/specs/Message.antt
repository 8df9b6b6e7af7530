-- What a message holds, and which fields go together. Document 01, 'Radio message, 64 bytes'; the limits are base's. Assumes nothing.
--     kind_code, kind_of                 01's number for each kind, and the kind of a number
--     Packet, no_message                 a message with its kind; one whose fields are all zero
--     filled_to                          which places of a stamp or an assignment are filled
--     bound_good, none_or_bound, no_bound   a bound with its best assignment
--     carried_of, cost_fits, bound_fits, direction_good     what each kind carries, from whom to whom
--     address_good, well_formed           01's checks 10 and 9 on the fields
use Rattle.std.specs.Prelude.{ℕ, ◌+◌, ◌-◌, Bool, true, false, cond, not, ◌&&◌, ◌||◌, List, ltb, leb, eqb, get_or, replicate, Result, Ok, Err}
use Rattle.base.specs.{declared.Refusal.Refusal, declared.Refusal.TheVariants.BadField, Limits.places, Limits.total_limit, Limits.estimate_limit, Limits.prefix_limit, Limits.NONE, Shape.is_value, Every.every}
use Rattle.message.specs.{declared.Kind.Kind, declared.Message.Message, declared.Carried.Carried}
use Rattle.message.specs.declared.Kind.TheVariants.{Cpa, Request, Estimate, Solution, Stop}

-- 01: "1 paper, 2 copy, 3 estimate, 4 news, 5 stop"
abbrev pub kind_code : Kind → ℕ
kind_code Cpa = 1
kind_code Request = 2
kind_code Estimate = 3
kind_code Solution = 4
kind_code Stop = 5

-- the kind of a number; 01, refusal 9: no kind has another
abbrev pub kind_of : ℕ → Result Kind Refusal
kind_of b = cond (eqb b 1) (Ok Cpa) (cond (eqb b 2) (Ok Request) (cond (eqb b 3) (Ok Estimate) (cond (eqb b 4) (Ok Solution) (cond (eqb b 5) (Ok Stop) (Err BadField)))))

-- a message with its kind
pub record Packet : Type 0 where
  pub kind : Kind
  pub message : Message

-- what C is handed beside a refusal
abbrev pub no_message : Message
no_message = record { sender = 0; receiver = 0; stamp = replicate places 0; values = replicate places 0; cost = 0; bound = 0; best = replicate places 0 }

-- 01: "Filled stamp and value bytes are 1 to d(k), others 0": place j of l, where the first k are filled
abbrev pub place_at : ℕ → List ℕ → List ℕ → ℕ → Bool
place_at k sizes l j = cond (ltb j k) (is_value (get_or sizes j 0) (get_or l j 0)) (eqb (get_or l j 0) 0)

-- units 1 to k are filled, and no others of the 16
unfoldable pub filled_to : ℕ → List ℕ → List ℕ → Bool
filled_to k sizes l = every (place_at k sizes l) places

-- 01: "A bound is at most" the limit "with best filled for all n and zero after"; 02, job 7: "The limit on bounds and totals .. becomes 8,160,000"
unfoldable pub bound_good : ℕ → List ℕ → ℕ → List ℕ → Bool
bound_good n sizes bound best = leb bound total_limit && filled_to n sizes best

-- 01: "or, on papers and stops only, none with best all zero"
unfoldable pub none_or_bound : ℕ → List ℕ → ℕ → List ℕ → Bool
none_or_bound n sizes bound best = cond (eqb bound NONE) (filled_to 0 sizes best) (bound_good n sizes bound best)

-- 01: "Fields a kind lacks are zero, the bound included"
unfoldable pub no_bound : List ℕ → ℕ → List ℕ → Bool
no_bound sizes bound best = eqb bound 0 && filled_to 0 sizes best

-- units 1 to k filled, in stamp and values, at the cost that they can have
abbrev pub prefix_of : ℕ → Carried
prefix_of k = record { stamps = k; values = k; cost = prefix_limit k; none = false }

-- what a kind carries besides a bound. 01: paper: "units 1 to receiver - 1, or 1 to receiver going back, are filled"; copy: "units 1 to
-- sender filled"; estimate: "stamp filled for units 1 to receiver, cost is
-- the estimate, all else zero"; news and stop: "only bound and best". 02, job 3: "An estimate with no value left carries 4,294,967,295, which
-- check 9 lets through"
abbrev pub carried_of : Kind → Message → Carried
carried_of Cpa m = prefix_of (cond (ltb m.sender m.receiver) (m.receiver - 1) m.receiver)
carried_of Request m = prefix_of m.sender
carried_of Estimate m = record { stamps = m.receiver; values = 0; cost = estimate_limit; none = true }
carried_of Solution m = prefix_of 0
carried_of Stop m = prefix_of 0

-- a cost within what a kind carries
abbrev pub cost_fits : Carried → ℕ → Bool
cost_fits c x = leb x c.cost || (c.none && eqb x NONE)

-- which bounds a kind may carry
abbrev pub bound_fits : ℕ → List ℕ → Kind → ℕ → List ℕ → Bool
bound_fits n sizes Cpa bound best = none_or_bound n sizes bound best
bound_fits n sizes Request bound best = no_bound sizes bound best
bound_fits n sizes Estimate bound best = no_bound sizes bound best
bound_fits n sizes Solution bound best = bound_good n sizes bound best
bound_fits n sizes Stop bound best = none_or_bound n sizes bound best

-- 01: "from unit n", "from unit 1", "to another unit"
abbrev pub from_to : ℕ → ℕ → ℕ → Bool
from_to home s r = eqb s home && not (eqb r s)

-- who may send to whom; 01: "receiver is sender + 1 (going down) or sender - 1 (going back)", "Copy: sender < receiver", "Estimate: sender > receiver"
abbrev pub direction_good : ℕ → Kind → ℕ → ℕ → Bool
direction_good n Cpa s r = eqb r (s + 1) || eqb s (r + 1)
direction_good n Request s r = ltb s r
direction_good n Estimate s r = ltb r s
direction_good n Solution s r = from_to n s r
direction_good n Stop s r = from_to 1 s r

-- a unit number, 1 to n
abbrev pub is_unit : ℕ → ℕ → Bool
is_unit = is_value

-- 01, refusal 10: "sender or receiver not 1 to n"
unfoldable pub address_good : ℕ → Message → Bool
address_good n m = is_unit n m.sender && is_unit n m.receiver

-- 01, refusal 9: "a message field against its kind"
unfoldable pub well_formed : ℕ → List ℕ → Kind → Message → Bool
well_formed n sizes k m =
    direction_good n k m.sender m.receiver && filled_to (carried_of k m).stamps sizes m.stamp && filled_to (carried_of k m).values sizes m.values
    && cost_fits (carried_of k m) m.cost && bound_fits n sizes k m.bound m.best
