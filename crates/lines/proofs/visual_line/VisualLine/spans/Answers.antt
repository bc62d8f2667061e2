use Rattle.std.proofs.Common.{ap, List, subst, sym, ◌∙◌}
use Rattle.lines.specs.Columns.{columns_left}
use Rattle.std.proofs.Common.{length}
use Rattle.lines.specs.Measures.{given_if}
use Rattle.lines.specs.Spans.{is_covered, AreMaximal}
use Rattle.lines.specs.Visual.{Visual}
use Rattle.lines.specs.declared.spans.Span.{Span}
use Rattle.lines.proofs.SelectionLemmas.{spans_are, spans_maximal}
use Rattle.lines.proofs.visual_line.VisualLine.spans.Goals as goal

pub returns-clause-spans : goal.returns-clause-spans
returns-clause-spans c =
    c.new.ensures
    ∙ spans_are c.args.self.now c.self.inside.tab_width (given_if c.self.inside.is_measured c.self.inside.advances.now) c.self.inside.text.now c.self.inside.vtol.now c.args.start c.args.end (ap (λ (v : Visual). v.tab_width) c.self.view_is)
    (ap (λ (v : Visual). v.advances) c.self.view_is)
    (ap (λ (v : Visual). v.text) c.self.view_is)
    (ap (λ (v : Visual). v.vtol) c.self.view_is)

pub returns-clause-maximal : goal.returns-clause-maximal
returns-clause-maximal c =
    subst (λ (spans : List Span). AreMaximal (is_covered c.args.self.now c.args.start c.args.end) (columns_left c.args.self.now (length c.args.self.now.vtol)) spans)
    (sym (returns-clause-spans c)) (spans_maximal c.args.self.now c.args.start c.args.end)
