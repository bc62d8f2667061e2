use Rattle.std.proofs.Common.{length, ap, sym, arith}
use Rattle.std.proofs.lemmas.List.{length-map}
use Rattle.lines.specs.Layouts.{start_of}
use Rattle.lines.specs.Parts.{line_of}
use Rattle.lines.proofs.MeasureLemmas.{all_written, line_inside, none_written, one_written}
use Rattle.lines.proofs.laid.put_each_width.Goals as goal

pub loop-n-init : goal.loop-n-init
loop-n-init c = none_written c.args.tab_width c.args.text.now c.args.advances.now c.args.lines.now.lines c.args.widths.now c.requires.lines c.requires.widths

pub loop-n-preserved : goal.loop-n-preserved
loop-n-preserved c =
    one_written c.args.tab_width c.loop-n.n c.args.text.now c.args.advances.now c.loop-n.widths c.put_widths.new.widths c.args.lines.now.lines (line_of c.in-Some.line) c.loop-n.invariant
    (sym c.in-Some.ensures.line) (line_inside (length c.args.text.now) c.loop-n.n c.args.lines.now.lines (line_of c.in-Some.line) (sym c.in-Some.ensures.line) c.requires.within) c.put_widths.ensures

pub returns : goal.returns
returns c =
    all_written c.args.tab_width c.loop-n.n c.args.text.now c.args.advances.now c.loop-n.widths c.args.lines.now.lines c.loop-n.invariant
    (omega (arith, c.loop-n-test.false, ap length c.starts-n-end.ensures, length-map c.args.lines.now.lines start_of))
