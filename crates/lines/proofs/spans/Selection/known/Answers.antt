use Rattle.std.proofs.Common.{◌∙◌, Bool, Some, ap, length, sym}
use Rattle.lines.specs.Measures.{given_if}
use Rattle.lines.specs.Widths.{widths_of}
use Rattle.lines.proofs.WidthLemmas.{length-widths_of}
use Rattle.lines.proofs.spans.Selection.known.Goals as goal

pub returns-then-self-clause-widths : goal.returns-then-self-clause-widths
returns-then-self-clause-widths c =
    let s = c.args.self.now in
    c.requires c.if-self.true ∙ ap (λ (b : Bool). widths_of s.tab_width (given_if b s.advances.now) s.text.now) (sym c.if-self.true)

pub returns-then-self-clause-len : goal.returns-then-self-clause-len
returns-then-self-clause-len c =
    let s = c.args.self.now in
    ap length (c.requires c.if-self.true) ∙ length-widths_of s.tab_width (Some s.advances.now) s.text.now
