-- The blocks and the file of a stream. Nobody has to believe it: that a file is read back as its stream, and that no other is accepted
-- and holds that stream, is in RoundTrip.
-- Document 01: "Blocks of 512 bytes. 0-1 block number from 0; 2-3 payload count; 4-509 payload; 510-511 check." Assumes nothing.
use Rattle.std.specs.Prelude.{ℕ, zero, suc, ◌-◌, List, [], ◌++◌, length, take, drop, replicate}
use Rattle.base.specs.{Limits.payload_size, Bytes.le16}
use Rattle.checksum.specs.Sum.{sum_of}
use Rattle.table.specs.Block.{blocks_for}

-- the first 510 bytes of block number k that carries p
abbrev pub body_of : ℕ → List ℕ → List ℕ
body_of k p = le16 k ++ le16 (length p) ++ p ++ replicate (payload_size - length p) 0

unfoldable pub block_of : ℕ → List ℕ → List ℕ
block_of k p = body_of k p ++ le16 (sum_of (body_of k p))

-- m blocks from number k on that carry s
unfoldable pub file_from : ℕ → ℕ → List ℕ → List ℕ
file_from k zero s = []
file_from k (suc m) s = block_of k (take payload_size s) ++ file_from (suc k) m (drop payload_size s)

unfoldable pub file_of : List ℕ → List ℕ
file_of s = file_from 0 (blocks_for (length s)) s
