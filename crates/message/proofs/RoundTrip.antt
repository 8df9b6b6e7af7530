-- What is written reads back as itself, and accepted bytes are written again as the same bytes: by the calls `write` and `parse`. Assumes nothing.
use Prim.Native.Nat.{ℕ, ◌+◌, ◌≤◌}
use Rattle.std.specs.Prelude.{◌≡◌, drop, Ok}
use Rattle.std.proofs.Math.Path.{ap}
use Rattle.std.proofs.Common.{◌∙◌}
use mathlib.Core.List.{List, ◌++◌}
use Rattle.std.proofs.Math.ListN.{length, take}
use Rattle.std.proofs.Math.Seq.{take_at}
use Rattle.base.specs.Bytes.Laws.{AllBytes}
use Rattle.base.specs.Limits.{message_size}
use Rattle.message.specs.declared.Kind.{Kind}
use Rattle.message.specs.declared.Message.{Message}
use Rattle.message.specs.Sized.{Sized}
use Rattle.message.specs.Decode.{message_in, parse_for, parse_of, write_refusal, packet_into}
use Rattle.message.specs.Written.{encode}
use Rattle.message.specs.EncodeLaws.{length_encode}
use Rattle.message.specs.DecodeLaws.{check_length, write_done}
use Rattle.message.specs.RoundTrip.{ParsedGood, Writable, encode_parse, parse_encode, parsed_good, parsed_message, receiver_of_encode, writable, writable_by}

-- what `write` accepts and puts first in the output reads back as the same message and kind
pub parse_written : (n : ℕ) (sizes : List ℕ) (k : Kind) (m : Message) (out : List ℕ) → Sized m → write_refusal n sizes k m (length out) ≡ 0
    → parse_of n sizes (take message_size (packet_into n sizes k m out)) ≡ Ok (k, m)
parse_written n sizes k m out z e =
    let a : Writable n sizes k m (length out) = writable n sizes k m (length out) e in
    let g : take message_size (packet_into n sizes k m out) ≡ encode k m = ap (λ (l : List ℕ). take message_size l) (write_done n sizes k m out e) ∙ take_at (encode k m) (drop (0 + length (encode k m)) out) message_size (length_encode k m z) in
    rw (g, receiver_of_encode k m z) (parse_encode n sizes k m a.shape a.address a.formed z)

-- so writing them again, into any buffer that is long enough, is accepted and leaves the same bytes in front of what was there
pub writes_again : (n : ℕ) (sizes : List ℕ) (own : ℕ) (s : List ℕ) (k : Kind) (m : Message) → AllBytes s → parse_for n sizes own s ≡ Ok (k, m) → (out : List ℕ) → message_size ≤ length out
    → (write_refusal n sizes k m (length out) ≡ 0) × (packet_into n sizes k m out ≡ s ++ drop message_size out)
writes_again n sizes own s k m b e out h =
    let a : ParsedGood n sizes own s k = parsed_good n sizes own s k m e in
    let l : length s ≡ message_size = check_length s a.check in
    let f : m ≡ message_in s = parsed_message n sizes own s k m e in
    let w : write_refusal n sizes k m (length out) ≡ 0 = writable_by n sizes k m (length out) record { shape = a.shape; address = rw f a.address; formed = rw f a.formed; fits = h } in
    (w, write_done n sizes k m out w ∙ rw (encode_parse n sizes own s k m b e, l))
