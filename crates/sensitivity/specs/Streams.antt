-- A retest, of streams. In order: where the number of a cost stands; two accepted tables whose bytes differ in one number; a stream with another
-- number for one cost. proofs/Streams/Laws and Retested say of both that what branch and bound finds lies between the ends. Assumes nothing.
use Rattle.std.specs.Prelude.{ℕ, zero, suc, Option, Some, None, ◌+◌, ◌*◌, ◌-◌, ◌≡◌, ◌≢◌, Bool, true, cond, ◌&&◌, List, ltb, eqb, get_or}
use Rattle.base.specs.{Bytes.le16, Put.put_at, Shape.is_value, Sums.sum_to}
use Rattle.table.specs.Stream.{in_form_two, units_of, unaries_in, unaries_at, stream_refusal, Accepted}
use Rattle.costs.specs.Instance.{dom_of, pair_start, in_pair}
use Rattle.sensitivity.specs.Changes.{Which, Unary, Pair}

-- ---- where the number of a cost stands

-- how many numbers stand before it. 02, job 7: "own costs unit by unit, pair costs"
abbrev pub number_index : List ℕ → Which → ℕ
number_index s (Unary k v) = sum_to (dom_of s) k + (v - 1)
number_index s (Pair i u j v) = unaries_in s + (pair_start (dom_of s) (units_of s) i j + in_pair (dom_of s j) u v)

-- at which byte
abbrev pub number_at : List ℕ → Which → ℕ
number_at s w = unaries_at s + 2 * number_index s w

-- it is one of the table's, and has a number: in form one a unary cost has none
abbrev pub has_number : List ℕ → Which → Bool
has_number s (Unary k v) = in_form_two s && ltb k (units_of s) && is_value (dom_of s k) v
has_number s (Pair i u j v) = ltb i j && ltb j (units_of s) && is_value (dom_of s i) u && is_value (dom_of s j) v

-- the byte at which it stands in an accepted stream, 0 where there is none
unfoldable pub place_of : List ℕ → Which → ℕ
place_of s w = cond (eqb (stream_refusal s) 0 && has_number s w) (number_at s w) 0

-- as the code gives it
abbrev pub found_at : ℕ → Option ℕ
found_at zero = None
found_at (suc at) = Some (suc at)

-- ---- two accepted tables whose bytes are the same but for the number of one cost

pub record OneNumber (s s' : List ℕ) (w : Which) : Type 0 where
  pub accepted : Accepted s
  pub accepted' : Accepted s'
  pub number : has_number s w ≡ true
  pub elsewhere : (i : ℕ) → i ≢ number_at s w → i ≢ number_at s w + 1 → get_or s' i 0 ≡ get_or s i 0

-- ---- a stream with the number x for that cost

abbrev pub retested : List ℕ → Which → ℕ → List ℕ
retested s w x = put_at s (number_at s w) (le16 x)
