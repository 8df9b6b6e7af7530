-- The tiny tables: which they are, their order, the stream that a number gives, and what is refused. Document 02, job 13, "Every tiny shed". That
-- each of them comes once is in proofs/Once. Assumes nothing.
use Rattle.std.specs.Prelude.{ℕ, ◌^◌, ◌≤◌, ◌<◌, ◌≡◌, Bool, true, false, cond, ◌||◌, List, ◌∷◌, ◌++◌, eqb, ltb, length, replicate}
use Rattle.base.specs.{declared.Length.Length, Bytes.le16, Join.join_to, Limits.stream_size}
use Rattle.table.specs.{Stream.Accepted, Stream.in_form_two, Stream.units_of, Stream.sizes_of, Stream.pairs_in, StreamLaws.stream_cost, File.answer, File.leaves}
use Rattle.tiny.specs.Binary.{digit, binary}

-- ---- which tables there are

-- 02: "all tables of two or three units"
abbrev pub is_tiny : ℕ → Bool
is_tiny n = eqb n 2 || eqb n 3

-- 02: ".. with two values each"
abbrev pub sizes_for : ℕ → List ℕ
sizes_for n = replicate n 2

-- how many pair costs these sizes need: 4, or 12
abbrev pub costs_for : ℕ → ℕ
costs_for n = pairs_in (sizes_for n)

-- the stream of such a table of n units
pub record Legal (n : ℕ) (s : List ℕ) : Type 0 where
  pub tiny : is_tiny n ≡ true
  -- it passes 5, 6 and 7
  pub accepted : Accepted s
  -- 02: "no own costs, as form one streams"
  pub form : in_form_two s ≡ false
  pub units : units_of s ≡ n
  pub sizes : sizes_of s ≡ sizes_for n
  -- 02: "pair costs 0 or 1"
  pub costs : (k : ℕ) → k < costs_for n → stream_cost s k ≤ 1

-- 02: "The order is the cost list read as a binary number, first cost as the top digit"
abbrev pub number_of : List ℕ → ℕ
number_of s = binary (stream_cost s) (pairs_in (sizes_of s))

-- 02: "16 and 4,096"; none of any other count of units
unfoldable pub tables_of : ℕ → ℕ
tables_of n = cond (is_tiny n) (2 ^ costs_for n) 0

-- ---- 02: "a number gives the table directly"

-- the bytes of m costs: the digits of x
abbrev pub cost_bytes : ℕ → ℕ → List ℕ
cost_bytes m x = join_to (λ k. le16 (digit m x k)) m

-- the stream of table x of n units
unfoldable pub tiny_stream : ℕ → ℕ → List ℕ
tiny_stream n x = n ∷ (sizes_for n ++ cost_bytes (costs_for n) x)

-- 02: "A number past the last, or a unit count other than 2 or 3, is 21, before 13."
unfoldable pub tiny_refusal : ℕ → ℕ → ℕ → ℕ
tiny_refusal n x room = cond (ltb x (tables_of n)) (cond (ltb room stream_size) 13 0) 21

-- the refusal, or 0 and the stream's length; and the lent buffer with the stream in front
unfoldable pub tiny_of : ℕ → ℕ → ℕ → Length
tiny_of n x room = answer (tiny_refusal n x room) (length (tiny_stream n x))

unfoldable pub tiny_into : ℕ → ℕ → List ℕ → List ℕ
tiny_into n x out = leaves (tiny_refusal n x (length out)) (tiny_stream n x) out

-- ---- 02: "Each legal table comes once"

-- numbers from zero up to the last, and the legal streams, are one to one
pub record EachOnce (n : ℕ) : Type 0 where
  -- a number gives a legal table, whose costs read as that number
  pub legal : (x : ℕ) → x < tables_of n → Legal n (tiny_stream n x)
  pub number : (x : ℕ) → x < tables_of n → number_of (tiny_stream n x) ≡ x
  -- the costs of a legal table read as a number that there is, which gives that table
  pub below : (s : List ℕ) → Legal n s → number_of s < tables_of n
  pub given : (s : List ℕ) → Legal n s → tiny_stream n (number_of s) ≡ s
