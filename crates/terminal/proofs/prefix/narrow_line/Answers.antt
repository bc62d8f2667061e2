use Rattle.std.proofs.Common.{◌∙◌, arith}
use Rattle.terminal.proofs.PrefixLemmas.{narrow_none, narrow_some}
use Rattle.terminal.proofs.prefix.narrow_line.Goals as goal

pub returns-then-line_count-ne1 : goal.returns-then-line_count-ne1
returns-then-line_count-ne1 c = narrow_none c.args.width c.args.laid.now (λ e. c.if-line_count-ne1.true (c.line_count.ensures ∙ e))

pub returns-then-columns-width : goal.returns-then-columns-width
returns-then-columns-width c =
    narrow_some c.args.width c.args.laid.now c.in_ok-line.line (omega (arith, c.line_count.ensures, c.if-line_count-ne1.false)) c.in_ok-line.ensures.nth
    (omega (arith, c.columns.ensures, c.if-columns-width.true))
