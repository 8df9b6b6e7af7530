-- `network::decimal::digits` meets its contract. Invariant: the digits of what is left, with the text written so far, are all
-- the digits, and zeros stand before that text. Assumes nothing.
use Rattle.std.specs.Prelude.{◌≡◌, ℕ, ◌+◌, ◌-◌, ◌<◌, ◌≤◌, true, false, eqb, ◌++◌, drop, set}
use mathlib.Core.Path.{refl, sym, ap, ◌∙◌}
use mathlib.Core.List.{append-nil}
use native.Mathlib.Omega.{arith}
use borrow.Author.Rules.{rules}
use lib.ListN.{length-set}
use Rattle.runs.specs.Count.{value_of}
use Rattle.runs.specs.Digits.{decimal}
use Rattle.runs.specs.Digits.Laws.{digit_more, digit-last, zeros_before, digits_done, digit_byte, no_digits_left}
use Rattle.network.proofs.decimal.digits.Goals as goal

less_one : (s : ℕ) → s ≤ 40 → s - 1 ≤ 40
less_one s h = omega arith

pub loop-start-init : goal.loop-start-init
loop-start-init c = (search rules, refl, sym (append-nil (decimal 40 (value_of c.args.c))))

pub overflow_add-text : goal.overflow_add-text
overflow_add-text c = record { fits = digit_byte c.tenth-d.result.digit c.tenth-d.ensures.1 }

pub returns-then-is_zero : goal.returns-then-is_zero
returns-then-is_zero c =
    let l = c.loop-start in
    let t = c.tenth-d in
    let some : 0 < l.start = c.loop-start-test.true in
    let within : l.start ≤ 40 = omega arith in
    let zero : eqb (value_of t.result.quotient) 0 ≡ true = sym c.is_zero.ensures ∙ c.if-is_zero.true in
    let most : l.start - 1 ≤ 40 = less_one l.start within in (
      digits_done (set l.text (l.start - 1) (48 + t.result.digit)) (l.start - 1) (value_of c.args.c)
          (length-set l.text (l.start - 1) (48 + t.result.digit) ∙ l.invariant.0)
          most
          (zeros_before l.text l.start (value_of l.rest) (value_of t.result.quotient) t.result.digit l.invariant.0 some within t.ensures.0 t.ensures.1 l.invariant.1)
          (digit-last l.text l.start (value_of l.rest) (value_of t.result.quotient) t.result.digit l.invariant.0 some within t.ensures.0 t.ensures.1 l.invariant.2 zero),
      most,
    )

pub loop-start-preserved : goal.loop-start-preserved
loop-start-preserved c =
    let l = c.loop-start in
    let t = c.tenth-d in
    let some : 0 < l.start = c.loop-start-test.true in
    let within : l.start ≤ 40 = omega arith in
    let more : eqb (value_of t.result.quotient) 0 ≡ false = sym c.is_zero.ensures ∙ c.if-is_zero.false in (
      length-set l.text (l.start - 1) (48 + t.result.digit) ∙ l.invariant.0,
      zeros_before l.text l.start (value_of l.rest) (value_of t.result.quotient) t.result.digit l.invariant.0 some within t.ensures.0 t.ensures.1 l.invariant.1,
      digit_more l.text l.start (value_of l.rest) (value_of t.result.quotient) t.result.digit l.invariant.0 some within t.ensures.0 t.ensures.1 l.invariant.2 more,
    )

pub returns : goal.returns
returns c =
    let l = c.loop-start in
    let none : l.start ≡ 0 = omega arith in
    let x = value_of c.args.c in (
      digits_done l.text 0 x l.invariant.0 (omega arith) (rw none at l.invariant.1)
          (l.invariant.2 ∙ ap (λ (s : ℕ). decimal s (value_of l.rest) ++ drop s l.text) none ∙ no_digits_left (value_of l.rest) (drop 0 l.text)),
      omega arith,
    )
