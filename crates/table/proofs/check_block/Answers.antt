-- `check_block` meets its contract: each way out is one answer of `block_refusal`, by the law that says so.
-- Assumes nothing.
use mathlib.Core.Path.{sym, ◌∙◌}
use Rattle.table.specs.BlockLaws.{refused_size, refused_check, refused_number, refused_payload, accepted_of}
use Rattle.table.proofs.check_block.Goals as goal

pub returns-then-block-ne-BLOCK_SIZE : goal.returns-then-block-ne-BLOCK_SIZE
returns-then-block-ne-BLOCK_SIZE c = refused_size c.args.number c.args.last c.args.block.now c.if-block-ne-BLOCK_SIZE.true

pub returns-then-u16_at-sum : goal.returns-then-u16_at-sum
returns-then-u16_at-sum c =
    let a = c.args in
    refused_check a.number a.last a.block.now c.if-block-ne-BLOCK_SIZE.false (λ e. c.if-u16_at-sum.true (c.u16_at.ensures.0 ∙ e ∙ sym c.sum.ensures))

pub returns-then-u16_at-from : goal.returns-then-u16_at-from
returns-then-u16_at-from c =
    let a = c.args in
    let check = sym c.u16_at.ensures.0 ∙ c.if-u16_at-sum.false ∙ c.sum.ensures in
    refused_number a.number a.last a.block.now c.if-block-ne-BLOCK_SIZE.false check (λ e. c.if-u16_at-from.true (c.u16_at-2.ensures.0 ∙ e ∙ sym c.from.ensures))

pub returns-then-not-payload_good : goal.returns-then-not-payload_good
returns-then-not-payload_good c =
    let a = c.args in
    let check = sym c.u16_at.ensures.0 ∙ c.if-u16_at-sum.false ∙ c.sum.ensures in
    let number = sym c.u16_at-2.ensures.0 ∙ c.if-u16_at-from.false ∙ c.from.ensures in
    refused_payload a.number a.last a.block.now c.if-block-ne-BLOCK_SIZE.false check number c.u16_at-count.result c.u16_at-count.ensures.0 (sym c.payload_good.ensures ∙ c.if-not-payload_good.true)

pub returns : goal.returns
returns c =
    let a = c.args in
    let check = sym c.u16_at.ensures.0 ∙ c.if-u16_at-sum.false ∙ c.sum.ensures in
    let number = sym c.u16_at-2.ensures.0 ∙ c.if-u16_at-from.false ∙ c.from.ensures in
    accepted_of a.number a.last a.block.now c.if-block-ne-BLOCK_SIZE.false check number c.u16_at-count.result c.u16_at-count.ensures.0 (sym c.payload_good.ensures ∙ c.if-not-payload_good.false)
