-- How far the least total may go when one cost changes. 02, job 12: "Make it a call that gives both ends from the old total and the change, the
-- lower end never below 0." proofs/Laws says that the new least total lies between them. Assumes nothing.
use Rattle.std.specs.Prelude.{ℕ, ◌+◌, ◌-◌, ◌≤◌, ◌≡◌, Bool, cond, ◌&&◌, ◌||◌, leb, eqb}
use Rattle.base.specs.Limits.{pair_limit, total_limit, NONE}
use Rattle.sensitivity.specs.declared.Range.{Range}

-- "Raising one cost by an amount raises the least total by 0 to that amount; lowering lowers it likewise": the lower end is the total less the
-- lowering, the upper end with the raise. A difference that would be below 0 is 0. "a table with no lotting keeps none"
abbrev pub lower_end : ℕ → ℕ → ℕ
lower_end total lowering = cond (eqb total NONE) NONE (total - lowering)

abbrev pub upper_end : ℕ → ℕ → ℕ
upper_end total raise = cond (eqb total NONE) NONE (total + raise)

-- this total lies between the ends
abbrev pub WithinEnds : ℕ → ℕ → ℕ → ℕ → Type 0
WithinEnds total lowering raise t = (lower_end total lowering ≤ t) × (t ≤ upper_end total raise)

-- "An old or new cost above 60,000 (barred included), or a total past the limit that isn't *none*, is 20, before anything is worked out." 60,000
-- is the limit of unary costs too.
abbrev pub in_limits : ℕ → ℕ → ℕ → Bool
in_limits total old new = leb old pair_limit && leb new pair_limit && (leb total total_limit || eqb total NONE)

abbrev pub no_ends : Range
no_ends = record { refusal = 20; lower = 0; upper = 0 }

-- of the old total, the old cost and the new cost
unfoldable pub ends_of : ℕ → ℕ → ℕ → Range
ends_of total old new = cond (in_limits total old new) (record { refusal = 0; lower = lower_end total (old - new); upper = upper_end total (new - old) }) no_ends

-- the ends are given, and this total lies between them
pub record Between (e : Range) (t : ℕ) : Type 0 where
  pub taken : e.refusal ≡ 0
  pub lower : e.lower ≤ t
  pub upper : t ≤ e.upper
