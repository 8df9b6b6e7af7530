-- The numbers of documents 01 and 02 that more than one place goes by, each here alone; src/lib.rt has the same for code. Assumes nothing.
use Rattle.std.specs.Prelude.{ℕ, ◌+◌, ◌*◌, ◌-◌}

-- ---- units and costs

-- 01: "n units (boxes), 1 to 16", and as many places in every array of a unit and of a message
abbrev pub places : ℕ
places = 16

-- 01: "Each pair i < j has a cost, 0 to 60,000"
abbrev pub pair_limit : ℕ
pair_limit = 60000

-- 02, job 3: "A pair cost of 65,535 means barred"
abbrev pub forbidden_pair : ℕ
forbidden_pair = 65535

-- 02, job 7: "Each unit gets a cost per value, 0 to 60,000, never barred"
abbrev pub unary_limit : ℕ
unary_limit = 60000

-- 02, job 7: "The limit on bounds and totals (not estimates) becomes 8,160,000": the 120 pairs of 16 units, and these alone
abbrev pub total_limit : ℕ
total_limit = 8160000

-- 01: "an estimate at most 7,200,000"
abbrev pub estimate_limit : ℕ
estimate_limit = 7200000

-- 01: "A paper or copy with k filled units costs at most 30,000 × k × (k-1)"; 02, job 7: it "may cost 60,000 × k more"
abbrev pub prefix_factor : ℕ
prefix_factor = 30000

abbrev pub prefix_limit : ℕ → ℕ
prefix_limit k = prefix_factor * k * (k - 1) + unary_limit * k

-- 01: "None as a bound is 4,294,967,295"
abbrev pub NONE : ℕ
NONE = 4294967295

-- 01, refusal 16: "more than 1,048,576 lottings"
abbrev pub search_limit : ℕ
search_limit = 1048576

-- ---- bytes

-- 02, job 7: "Stored form two: the stream opens with byte 200"
abbrev pub form_two : ℕ
form_two = 200

-- 01: "Blocks of 512 bytes", of which 506 are payload and the check is over the first 510; 02, job 7: "at most 123 blocks or 62,976 bytes"
abbrev pub block_size : ℕ
block_size = 512

abbrev pub payload_size : ℕ
payload_size = 506

abbrev pub checked_size : ℕ
checked_size = 510

abbrev pub file_size : ℕ
file_size = 62976

-- 01: "Radio message, 64 bytes"; "The pool is 1,024 cells of 64 bytes"
abbrev pub message_size : ℕ
message_size = 64

abbrev pub pool_cells : ℕ
pool_cells = 1024

-- 01, refusal 13: "1,024 for sending, 65,536 for the pool"; 02, job 7: "a stream buffer of 61,970"
abbrev pub sending_size : ℕ
sending_size = 1024

abbrev pub pool_size : ℕ
pool_size = 65536

abbrev pub stream_size : ℕ
stream_size = 61970

-- the most bytes of the costs that touch one unit: 16 own values, alone and with 15 others of 16 values, two bytes each
abbrev pub costs_size : ℕ
costs_size = 7712
