-- A message read from bytes and written into a lent buffer, with the refusals in 01's order. Document 01, 'Refusals':
-- "Reading a message: 5, 8, 10, 9. Writing one: 5, 10, 9, 13." Assumes nothing.
use Rattle.std.specs.Prelude.{ℕ, ◌+◌, Bool, cond, not, ◌&&◌, List, leb, eqb, length, take, drop, get_or, Result, Ok, Err}
use Rattle.base.specs.{declared.Refusal.Refusal, declared.Refusal.TheVariants.OutOfRange, declared.Refusal.TheVariants.Damaged, declared.Refusal.TheVariants.BadField, declared.Refusal.TheVariants.BadUnit, Bytes.u16_at, Bytes.u32_at, Limits.places, Limits.message_size, Put.put_at, Shape.shape_good}
use Rattle.checksum.specs.Sum.{sum_of}
use Rattle.message.specs.{declared.Kind.Kind, declared.Message.Message, Written.encode}
use Rattle.message.specs.Layout.{stamp_byte, values_byte, cost_byte, bound_byte, best_byte, zero_byte, check_byte}
use Rattle.message.specs.Message.{kind_of, address_good, well_formed}

-- the fields of 64 bytes
unfoldable pub message_in : List ℕ → Message
message_in s = record {
  sender = get_or s 1 0;
  receiver = get_or s 2 0;
  stamp = take places (drop stamp_byte s);
  values = take places (drop values_byte s);
  cost = u32_at s cost_byte;
  bound = u32_at s bound_byte;
  best = take places (drop best_byte s);
}

-- 01, refusal 8: "message not 64 bytes, or check wrong"
unfoldable pub check_good : List ℕ → Bool
check_good s = eqb (length s) message_size && eqb (u16_at s check_byte) (sum_of (take check_byte s))

-- 01: "3 zero", "60-61 zero"
unfoldable pub rest_zero : List ℕ → Bool
rest_zero s = eqb (get_or s 3 0) 0 && eqb (u16_at s zero_byte) 0

-- check 9, by the kind read, on the bytes s and their fields m
unfoldable pub parse_kind : ℕ → List ℕ → List ℕ → Message → Result Kind Refusal → Result (Kind × Message) Refusal
parse_kind n sizes s m (Ok k) = cond (rest_zero s && well_formed n sizes k m) (Ok (k, m)) (Err BadField)
parse_kind n sizes s m (Err r) = Err r

-- 01: "5, 8, 10, 9", read by unit own; 10: "sender or receiver not 1 to n; in a step, message for another unit"
unfoldable pub parse_for : ℕ → List ℕ → ℕ → List ℕ → Result (Kind × Message) Refusal
parse_for n sizes own s =
    cond (not (shape_good n sizes)) (Err OutOfRange)
    (cond (not (check_good s)) (Err Damaged)
    (cond (not (address_good n (message_in s) && eqb (message_in s).receiver own)) (Err BadUnit)
    (parse_kind n sizes s (message_in s) (kind_of (get_or s 0 0)))))

-- read by any unit: by the one that byte 2 names
abbrev pub parse_of : ℕ → List ℕ → List ℕ → Result (Kind × Message) Refusal
parse_of n sizes s = parse_for n sizes (get_or s 2 0) s

-- 01, refusal 13: "lent output too short: .. 64 for a message", from `at` on in `room` bytes; 0 where they fit
unfoldable pub put_refusal : ℕ → ℕ → ℕ
put_refusal room at = cond (leb (at + message_size) room) 0 13

-- what putting leaves in the lent buffer: the 64 bytes from `at` on where they fit, else all as it was
unfoldable pub put_into : Kind → Message → List ℕ → ℕ → List ℕ
put_into k m l at = cond (leb (at + message_size) (length l)) (put_at l at (encode k m)) l

-- 01: "5, 10, 9, 13", the last for a lent output of `room` bytes; 0 where the message is written
unfoldable pub write_refusal : ℕ → List ℕ → Kind → Message → ℕ → ℕ
write_refusal n sizes k m room =
    cond (not (shape_good n sizes)) 5
    (cond (not (address_good n m)) 10
    (cond (not (well_formed n sizes k m)) 9
    (put_refusal room 0)))

-- what writing leaves in the lent output: the 64 bytes first, or all as it was
unfoldable pub packet_into : ℕ → List ℕ → Kind → Message → List ℕ → List ℕ
packet_into n sizes k m out = cond (eqb (write_refusal n sizes k m (length out)) 0) (put_at out 0 (encode k m)) out
