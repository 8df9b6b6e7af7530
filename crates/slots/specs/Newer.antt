-- The newer of two lent messages. 02, job 4: "For two lent messages that share sender, receiver and kind, the newer of the two is handed back as
-- part of the buffer that held it: by stamp, or by lower bound for news, the first on a tie. Each must read, the first checked first, and two
-- that differ in any of the three get 9."
--     same_slot, second_newer                   whether two messages share the three; whether the second is the newer
--     choice_of                                the first, the second, or neither with a refusal
--     newer_refusal, which_newer, newer_of       the answers of the three calls
-- Assumes nothing.
use Rattle.std.specs.Prelude.{ℕ, Bool, true, false, cond, ◌&&◌, List, [], ltb, eqb, Result, Ok, Err}
use Rattle.base.specs.{declared.Refusal.Refusal, declared.Refusal.TheVariants.BadField, Limits.places, Refusal.number_of}
use Rattle.message.specs.{declared.Kind.Kind, declared.Message.Message, Message.kind_code, Decode.parse_of}
use Rattle.message.specs.declared.Kind.TheVariants.{Cpa, Request, Estimate, Solution, Stop}
use Rattle.std.specs.Ordering.{is_lt}
use Rattle.rules.specs.{State.compare_on}
use Rattle.slots.specs.declared.pair.Which.{Which}
use Rattle.slots.specs.declared.pair.Which.TheVariants.{First, Second}
pub mod Laws

-- the same kind, sender and receiver
abbrev pub same_slot : Kind → Message → Kind → Message → Bool
same_slot k a l b = eqb (kind_code k) (kind_code l) && eqb a.sender b.sender && eqb a.receiver b.receiver

-- b's stamp is the bigger
abbrev pub later_stamp : Message → Message → Bool
later_stamp a b = is_lt (compare_on places a.stamp b.stamp)

-- 02: "by stamp, or by lower bound for news"; a stop has no stamp, and the first of two is handed back
abbrev pub second_newer : Kind → Message → Message → Bool
second_newer Cpa a b = later_stamp a b
second_newer Request a b = later_stamp a b
second_newer Estimate a b = later_stamp a b
second_newer Solution a b = ltb b.bound a.bound
second_newer Stop a b = false

-- of two messages that were read
abbrev pub chosen : Kind → Message → Kind → Message → Result Which Refusal
chosen k a l b = cond (same_slot k a l b) (Ok (cond (second_newer k a b) Second First)) (Err BadField)

-- 02: "Each must read, the first checked first"
abbrev pub choose : Result (Kind × Message) Refusal → Result (Kind × Message) Refusal → Result Which Refusal
choose (Err r) y = Err r
choose (Ok (k, a)) (Err r) = Err r
choose (Ok (k, a)) (Ok (l, b)) = chosen k a l b

-- of two lent buffers; refusals 5, 8, 10, 9 of the first, 8, 10, 9 of the second, and 9
unfoldable pub choice_of : ℕ → List ℕ → List ℕ → List ℕ → Result Which Refusal
choice_of n sizes first second = choose (parse_of n sizes first) (parse_of n sizes second)

-- ---- each choice as a refusal, as 1 or 2, and as the bytes handed back

abbrev pub refusal_in : Result Which Refusal → ℕ
refusal_in (Ok w) = 0
refusal_in (Err r) = number_of r

abbrev pub which_in : Result Which Refusal → ℕ
which_in (Ok First) = 1
which_in (Ok Second) = 2
which_in (Err r) = 0

abbrev pub handed_in : Result Which Refusal → List ℕ → List ℕ → List ℕ
handed_in (Ok First) first second = first
handed_in (Ok Second) first second = second
handed_in (Err r) first second = []

-- 0 where one is handed back
abbrev pub newer_refusal : ℕ → List ℕ → List ℕ → List ℕ → ℕ
newer_refusal n sizes first second = refusal_in (choice_of n sizes first second)

-- 1 for the first buffer, 2 for the second, 0 where refused
abbrev pub which_newer : ℕ → List ℕ → List ℕ → List ℕ → ℕ
which_newer n sizes first second = which_in (choice_of n sizes first second)

-- the bytes of the one handed back: all 64, as a message that reads has no others; none where refused
abbrev pub newer_of : ℕ → List ℕ → List ℕ → List ℕ → List ℕ
newer_of n sizes first second = handed_in (choice_of n sizes first second) first second
