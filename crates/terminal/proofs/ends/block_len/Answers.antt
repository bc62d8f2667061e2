use Rattle.std.proofs.Common.{◌≡◌, ◌∙◌, get_or, ap₂, sym, below_more, arith}
use Rattle.lines.specs.Engine.{rules_of}
use Rattle.lines.specs.Layouts.{cut_by}
use Rattle.terminal.specs.Texts.{ends_block}
use Rattle.terminal.proofs.EndLemmas.{block_ends, block_last, read_front}
use Rattle.terminal.proofs.ends.block_len.Goals as goal

pub returns-then-ends_block-clause-block : goal.returns-then-ends_block-clause-block
returns-then-ends_block-clause-block c =
    let is_cut = cut_by (rules_of c.args.engine.now) in
    let text = c.args.text.now in
    let k = c.loop-k.k in
    let read : c.index-front-k.result ≡ get_or text k 0 = read_front text _ k c.index-front-k.result c.split_at.ensures.front (omega arith) c.index-front-k.is in
    block_ends is_cut text k (omega arith) c.loop-k.invariant
    (sym (ap₂ (ends_block is_cut) read c.split_at.ensures.back) ∙ sym c.ends_block.ensures ∙ c.if-ends_block.true)

pub loop-k-preserved : goal.loop-k-preserved
loop-k-preserved c =
    let is_cut = cut_by (rules_of c.args.engine.now) in
    let text = c.args.text.now in
    let k = c.loop-k.k in
    let read : c.index-front-k.result ≡ get_or text k 0 = read_front text _ k c.index-front-k.result c.split_at.ensures.front (omega arith) c.index-front-k.is in
    below_more _ _ c.loop-k.invariant
    (sym (ap₂ (ends_block is_cut) read c.split_at.ensures.back) ∙ sym c.ends_block.ensures ∙ c.if-ends_block.false)

pub returns-clause-block : goal.returns-clause-block
returns-clause-block c =
    let text = c.args.text.now in
    block_last (cut_by (rules_of c.args.engine.now)) text c.requires (λ j below. c.loop-k.invariant j (omega (arith, below, c.loop-k-test.false)))
