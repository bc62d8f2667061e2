use Rattle.std.proofs.Common.{arith}
use Rattle.terminal.specs.Appending.{prefix_of}
use Rattle.terminal.specs.Paragraphs.{styled_nth}
use Rattle.terminal.specs.Parts.{styles_in}
use Rattle.terminal.proofs.LayoutLemmas.{last_line, next_line}
use Rattle.terminal.proofs.paragraph.push_layout.Goals as goal

pub loop-n-preserved : goal.loop-n-preserved
loop-n-preserved c =
    let form = c.args.form.now in
    let laid = c.args.laid.now in
    next_line (styled_nth (prefix_of form) form.width form.print laid (styles_in c.args.part.now)) laid.lines c.loop-n.n c.loop-n.out.items _ _
    (omega (arith, c.line_count-n-end.ensures)) c.in_ok-push_nth.ensures c.loop-n.invariant

pub returns : goal.returns
returns c =
    let form = c.args.form.now in
    let laid = c.args.laid.now in
    last_line (styled_nth (prefix_of form) form.width form.print laid (styles_in c.args.part.now)) laid.lines c.loop-n.n c.loop-n.out.items _
    (omega (arith, c.line_count-n-end.ensures)) c.loop-n.invariant
