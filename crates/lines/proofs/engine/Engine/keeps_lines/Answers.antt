use Rattle.std.proofs.Common.{sym, ◌∙◌}
use Rattle.lines.specs.Engine.{rules_of}
use Rattle.lines.specs.Layouts.{with_advances}
use Rattle.lines.proofs.StayLemmas.{lines_kept}
use Rattle.lines.proofs.engine.Engine.keeps_lines.Goals as goal

pub returns-clause-lines : goal.returns-clause-lines
returns-clause-lines c = λ advances kept laid.
    lines_kept c.paragraphs_end_at_must.ensures (with_advances (rules_of c.args.self.now) advances) c.args.width c.args.laid.now (sym c.is_kept.ensures ∙ kept) laid
