-- The calls: making a unit and a step, refusals in 01's order; 02, job 9: each names the order in which values are tried.
-- 01: "Making a unit ..: 5, 10 (unit only), 6, 7, 13." "Step: 13, 5 (n, sizes), 10 (own number), 6, 7, 5 (state), 8, 10, 9, 12, 11." Assumes nothing.
use Rattle.std.specs.Prelude.{ℕ, zero, suc, pred, cond, not, List, ltb, length, Result, Ok, Err}
use Rattle.base.specs.{declared.Refusal.Refusal, Limits.sending_size, Refusal.number_of, Refusal.or_else, Shape.shape_good}
use Rattle.costs.specs.{declared.ValueOrder.ValueOrder, Instance.View, Instance.lent_view, Lent.lent_refusal}
use Rattle.message.specs.{declared.Kind.Kind, declared.Message.Message, Message.is_unit, Decode.parse_for}
use Rattle.rules.specs.{declared.Unit.Unit, declared.Outcome.Outcome, declared.Report.Report, State.fresh, State.in_range, Send.packets, Send.laid}
use Rattle.rules.specs.Step.{Decision, refused, accepted, quiet, assign, respond}

-- ---- what the caller gets

abbrev pub outcome_of : ℕ → ℕ → Unit → Decision → Outcome
outcome_of n k was (refused r) = record { refusal = r; unit = was; sent = 0; records = 0 }
outcome_of n k was (accepted u s ws) = record { refusal = 0; unit = u; sent = length (packets n k s); records = length ws }

-- its numbers, which a step in place hands back
abbrev pub numbers_of : Outcome → Report
numbers_of r = record { refusal = r.refusal; sent = r.sent; records = r.records }

abbrev pub bytes_of : ℕ → ℕ → List ℕ → Decision → List ℕ
bytes_of n k out (refused r) = out
bytes_of n k out (accepted u s ws) = laid (packets n k s) out

-- ---- refusals before anything is done

-- of what is lent beside a state: the first of 5, 10, 6, 7 that applies, or 0
unfoldable pub seat_refusal : ℕ → ℕ → List ℕ → List ℕ → ℕ
seat_refusal own n sizes costs = cond (not (shape_good n sizes)) 5 (cond (not (is_unit n own)) 10 (lent_refusal own n sizes costs))

-- of making: the first of 5, 10, 6, 7, 13
unfoldable pub make_refusal : ℕ → ℕ → List ℕ → List ℕ → ℕ → ℕ
make_refusal own n sizes costs room = or_else (seat_refusal own n sizes costs) (cond (ltb room sending_size) 13 0)

-- of a lent state: the first of 5, 10, 6, 7, 5
unfoldable pub range_refusal : ValueOrder → Unit → ℕ → ℕ → List ℕ → List ℕ → ℕ
range_refusal order u own n sizes costs = or_else (seat_refusal own n sizes costs) (cond (in_range sizes (lent_view order own n sizes costs) u) 0 5)

-- of a step before its packet is read: the first of 13, 5, 10, 6, 7, 5
unfoldable pub step_refusal : ValueOrder → Unit → ℕ → ℕ → List ℕ → List ℕ → ℕ → ℕ
step_refusal order u own n sizes costs room = cond (ltb room sending_size) 13 (range_refusal order u own n sizes costs)

abbrev pub unless_refused : ℕ → Decision → Decision
unless_refused zero o = o
unless_refused (suc r) o = refused (suc r)

-- ---- making

-- 01: "Making unit 1 assigns"
abbrev pub start : View → ℕ → Decision
start w zero = assign w fresh
start w (suc k) = quiet fresh

unfoldable pub make_out : ValueOrder → ℕ → ℕ → List ℕ → List ℕ → ℕ → Decision
make_out order own n sizes costs room = unless_refused (make_refusal own n sizes costs room) (start (lent_view order own n sizes costs) (pred own))

-- ---- a step

-- 01: "A message is read into its kind and fields, or a refusal; unless reading gave a message, the step ends there."
abbrev pub on_read : View → Unit → Result (Kind × Message) Refusal → Decision
on_read w u (Ok (k, m)) = respond w k u m
on_read w u (Err r) = refused (number_of r)

unfoldable pub step_out : ValueOrder → Unit → ℕ → ℕ → List ℕ → List ℕ → List ℕ → ℕ → Decision
step_out order u own n sizes costs bytes room =
    unless_refused (step_refusal order u own n sizes costs room) (on_read (lent_view order own n sizes costs) u (parse_for n sizes own bytes))
