-- A message taken as it stands. Nobody has to believe it: of bytes that reading accepts it is what reading gives, `unpack_parsed` of RoundTrip, and a
-- run hands over no others. Assumes nothing.
use Rattle.std.specs.Prelude.{List, ℕ, cond, eqb, length, get_or, Result, Ok, Err}
use Rattle.base.specs.declared.Refusal.{Refusal}
use Rattle.base.specs.declared.Refusal.TheVariants.{Damaged}
use Rattle.base.specs.Limits.{message_size}
use Rattle.message.specs.{declared.Kind.Kind, declared.Message.Message}
use Rattle.message.specs.Message.{kind_of}
use Rattle.message.specs.Decode.{message_in}

-- 64 bytes that are known to be a message, as a run knows what its units sent: the kind that byte 0 names, and the fields. Asked is only what
-- reading can't do without: 8, 64 bytes; 9, a kind.
abbrev pub of_kind : Message → Result Kind Refusal → Result (Kind × Message) Refusal
of_kind m (Ok k) = Ok (k, m)
of_kind m (Err r) = Err r

unfoldable pub unpack_of : List ℕ → Result (Kind × Message) Refusal
unpack_of s = cond (eqb (length s) message_size) (of_kind (message_in s) (kind_of (get_or s 0 0))) (Err Damaged)
