-- The cell of a message in the pool of 02, job 4: "Keep one cell for each sender, receiver and kind that the rules allow: 300 cells for 16 units,
-- ordered by kind, sender, receiver; n units use the first (n-1) × (n+4)". Units count from 1, as in messages; cells from 0.
--     slot_cells, slot_pool_size     the pool's size
--     may_carry                    the triples that the rules allow
--     used_slots                   how many there are for n units
--     slot_number, slot_of          the cell of a triple, and of a message
-- Slot/Laws has that this numbers the triples, each with a cell of its own, in 02's order. Assumes nothing.
use Rattle.std.specs.Prelude.{ℕ, ◌+◌, ◌*◌, ◌-◌, ◌/◌, Bool, cond, ◌&&◌, ltb}
use Rattle.message.specs.declared.Kind.{Kind}
use Rattle.message.specs.declared.Kind.TheVariants.{Cpa, Request, Estimate, Solution, Stop}
use Rattle.message.specs.Message.{Packet, is_unit, direction_good}
pub mod Laws

-- 02: "300 cells for 16 units"; "The pool is 19,200 bytes, and 13 reads so for this pool"
abbrev pub slot_cells : ℕ
slot_cells = 300

abbrev pub slot_pool_size : ℕ
slot_pool_size = 19200

-- 02: "each sender, receiver and kind that the rules allow": two of the n units, and the direction that check 9 asks of the kind
abbrev pub may_carry : ℕ → Kind → ℕ → ℕ → Bool
may_carry n k s r = is_unit n s && is_unit n r && direction_good n k s r

-- 02: "n units use the first (n-1) × (n+4)"
abbrev pub used_slots : ℕ → ℕ
used_slots n = (n - 1) * (n + 4)

-- 1 + 2 + .. + (m - 1): the pairs of m units
unfoldable pub triangle : ℕ → ℕ
triangle m = m * (m - 1) / 2

-- the cells of the kinds before: n - 1 pairs of neighbours, each both ways; a request and an estimate for each pair of units; n - 1 solutions
abbrev pub kind_start : ℕ → Kind → ℕ
kind_start n Cpa = 0
kind_start n Request = 2 * (n - 1)
kind_start n Estimate = 2 * (n - 1) + triangle n
kind_start n Solution = 2 * (n - 1) + 2 * triangle n
kind_start n Stop = 3 * (n - 1) + 2 * triangle n

-- the cells of the same kind before, by sender, then receiver. Of CPAs: 1 to 2, 2 to 1, 2 to 3, 3 to 2, and so on. Of requests: the later units
-- of each sender before s, then those before r. Of estimates: the earlier units of each sender before s, then those before r.
abbrev pub place_in_kind : ℕ → Kind → ℕ → ℕ → ℕ
place_in_kind n Cpa s r = s + r - cond (ltb s r) 3 2
place_in_kind n Request s r = (triangle n - triangle (n + 1 - s)) + (r - s - 1)
place_in_kind n Estimate s r = triangle (s - 1) + (r - 1)
place_in_kind n Solution s r = r - 1
place_in_kind n Stop s r = r - 2

-- the cell of a message of that kind from s to r, of n units
unfoldable pub slot_number : ℕ → Kind → ℕ → ℕ → ℕ
slot_number n k s r = kind_start n k + place_in_kind n k s r

-- the same, or 300 where the rules allow no such message: past every cell that up to 16 units use
unfoldable pub slot_or_none : ℕ → Kind → ℕ → ℕ → ℕ
slot_or_none n k s r = cond (may_carry n k s r) (slot_number n k s r) slot_cells

-- the cell of a message
abbrev pub slot_of : ℕ → Packet → ℕ
slot_of n p = slot_number n p.kind p.message.sender p.message.receiver
