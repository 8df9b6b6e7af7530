-- A message as its 64 bytes. Nobody has to believe it: that they are read back as the message, and that no others are, is in RoundTrip.
-- Document 01, 'Radio message, 64 bytes'. Assumes nothing.
use Rattle.std.specs.Prelude.{List, ℕ, [], ◌∷◌, ◌++◌}
use Rattle.base.specs.Bytes.{le16, le32}
use Rattle.checksum.specs.Sum.{sum_of}
use Rattle.message.specs.{declared.Kind.Kind, declared.Message.Message, Message.kind_code}

-- 01: "0 kind; 1 sender; 2 receiver; 3 zero; 4-19 stamp; 20-35 values; 36-39 cost; 40-43 bound; 44-59 best lotting; 60-61 zero"
unfoldable pub body : Kind → Message → List ℕ
body k m = (kind_code k ∷ m.sender ∷ m.receiver ∷ 0 ∷ []) ++ m.stamp ++ m.values ++ le32 m.cost ++ le32 m.bound ++ m.best ++ 0 ∷ 0 ∷ []

-- 01: "62-63 check, the same sum over bytes 0 to 61"
unfoldable pub encode : Kind → Message → List ℕ
encode k m = body k m ++ le16 (sum_of (body k m))
