use Rattle.std.proofs.Common.{◌∙◌, Bool, Some, ap, length, sym}
use Rattle.lines.specs.Columns.{widths}
use Rattle.lines.specs.Measures.{given_if}
use Rattle.lines.specs.Visual.{Visual}
use Rattle.lines.specs.Widths.{widths_of}
use Rattle.lines.proofs.WidthLemmas.{length-widths_of}
use Rattle.lines.proofs.visual_line.VisualLine.known.Goals as goal

pub returns-then-self-clause-widths : goal.returns-then-self-clause-widths
returns-then-self-clause-widths c =
    let line = c.self.inside in
    c.self.invariant.3 c.if-self.true ∙ ap (λ (b : Bool). widths_of line.tab_width (given_if b line.advances.now) line.text.now) (sym c.if-self.true)
    ∙ ap widths c.self.view_is

pub returns-then-self-clause-len : goal.returns-then-self-clause-len
returns-then-self-clause-len c =
    let line = c.self.inside in
    ap length (c.self.invariant.3 c.if-self.true) ∙ length-widths_of line.tab_width (Some line.advances.now) line.text.now ∙ ap (λ (v : Visual). length v.text) c.self.view_is
