use Rattle.std.proofs.Common.{◌∙◌, ◌<◌, ◌-◌, length, sym, arith}
use Rattle.std.proofs.lemmas.List.{get_or_default}
use Rattle.lines.proofs.WidthLemmas.{since_more, since_start, since_tab}
use Rattle.lines.proofs.widths.since_stop.Goals as goal

pub loop-start-preserved : goal.loop-start-preserved
loop-start-preserved c =
    let text = c.args.text.now in
    let start = c.loop-start.start in
    let within : start - 1 < length text = omega (arith, c.loop-start.invariant.within, c.requires, c.loop-start-test.true) in
    let first = c.index-text-start.is ∙ get_or_default text (start - 1) c.index-text-start.result 0 within in
    let second = c.index-text-start-in-loop-start.is ∙ get_or_default text (start - 1) c.index-text-start-in-loop-start.result 0 within in
    since_more text c.args.k start c.loop-start.sum c.index-text-start-in-loop-start.result c.columns.result c.requires c.loop-start.invariant c.loop-start-test.true second
    (λ tab. c.if-text-start-ne9.true (first ∙ sym second ∙ tab)) c.columns.ensures.value c.columns.ensures.few

-- the start of the line is a tab stop
pub returns-after-loop-start : goal.returns-after-loop-start
returns-after-loop-start c = λ n _. since_start c.args.text.now c.args.k c.loop-start.start c.loop-start.sum c.loop-start.invariant (omega (arith, c.loop-start-test.false)) n

-- the end of a tab is a tab stop
pub returns-else-text-start-ne9 : goal.returns-else-text-start-ne9
returns-else-text-start-ne9 c =
    let text = c.args.text.now in
    let start = c.loop-start.start in
    let within : start - 1 < length text = omega (arith, c.loop-start.invariant.within, c.requires, c.loop-start-test.true) in
    let tab = sym (c.index-text-start.is ∙ get_or_default text (start - 1) c.index-text-start.result 0 within) ∙ c.if-text-start-ne9.false in
    λ n wide. since_tab text c.args.k start c.loop-start.sum c.requires c.loop-start.invariant c.loop-start-test.true tab n wide
