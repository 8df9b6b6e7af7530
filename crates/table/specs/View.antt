-- What private functions go by: a file whose blocks are accepted, and one view of a stream for the checks 5, 6 and 7. The lent bytes are the
-- stream itself, or a file whose blocks carry it; the checks are written once, over the view, and a leaf knows where byte k of it stands.
-- Assumes nothing.
use Rattle.std.specs.Prelude.{ℕ, ◌+◌, ◌*◌, ◌/◌, ◌%◌, ◌≤◌, ◌<◌, Bool, true, false, List, ◌≡◌, length, get_or}
use Rattle.base.specs.Limits.{places, block_size, payload_size}
use Rattle.base.specs.Shape.{is_value, all_in_sixteen}
use Rattle.table.specs.Stream.{units_of, sizes_of, unaries_at, stream_refusal}
use Rattle.table.specs.File.{size_good, blocks_refusal, stream_of}

-- a file whose blocks pass 1, 4, 2 and 3
abbrev pub BlocksAccepted : List ℕ → Type 0
BlocksAccepted f = (size_good (length f) ≡ true) × (blocks_refusal 0 (length f / block_size) f ≡ 0)

abbrev pub stream_in : Bool → List ℕ → List ℕ
stream_in false b = b
stream_in true b = stream_of b

-- where byte k of the stream stands in a file
abbrev pub place_in_file : ℕ → ℕ
place_in_file k = block_size * (k / payload_size) + 4 + k % payload_size

abbrev pub place_in : Bool → ℕ → ℕ
place_in false k = k
place_in true k = place_in_file k

-- the stream is count bytes long, and each stands where place_in says
pub record Viewed (blocked : Bool) (b : List ℕ) (count : ℕ) : Type 0 where
  pub counted : length (stream_in blocked b) ≡ count
  pub placed : (k : ℕ) → k < count → get_or (stream_in blocked b) k 0 ≡ get_or b (place_in blocked k) 0

-- n and all sizes are there, and pass check 5
abbrev pub Shaped : List ℕ → Type 0
Shaped s = (is_value places (units_of s) ≡ true) × (all_in_sixteen (sizes_of s) ≡ true) × (unaries_at s ≤ length s)

-- r is the refusal that n and the sizes alone give, or 0
abbrev pub ShapeSays : ℕ → List ℕ → Type 0
ShapeSays r s = (r ≡ 0 → Shaped s) × ((r ≡ 0 → ⊥) → r ≡ stream_refusal s)

-- a run of r costs from byte k of the stream on stands in one block; or it is one cost, in two
abbrev pub RunAt : ℕ → ℕ → Type 0
RunAt k r = (k % payload_size + 1 < payload_size → k % payload_size + 2 * r ≤ payload_size) × (k % payload_size + 1 ≡ payload_size → r ≡ 1)
