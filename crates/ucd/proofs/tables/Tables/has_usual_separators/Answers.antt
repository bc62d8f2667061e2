use Rattle.std.proofs.Common.{◌∙◌, ap, sym}
use Rattle.std.specs.Arc.{arc_value}
use Rattle.ucd.specs.Tables.{class_of}
use Rattle.ucd.proofs.LineLemmas.{usual_if, unusual_if}
use Rattle.ucd.proofs.tables.Tables.has_usual_separators.Goals as goal

-- characters that are not usual separators keep their classes
pub returns-clause-yes : goal.returns-clause-yes
unfolding class_of
returns-clause-yes c = λ is x lt other separates.
    usual_if c.self.inside.separates_lines (arc_value c.self.inside.shared) x lt
    (λ same. c.has_usual_separators.ensures.yes is x lt other (ap (λ t. class_of t x) c.deref.ensures ∙ same))
    (ap (λ t. class_of t x) c.self.view_is ∙ separates)

pub returns-clause-no : goal.returns-clause-no
unfolding class_of
returns-clause-no c = λ isnt all.
    c.has_usual_separators.ensures.no isnt (λ x lt other separates.
    unusual_if c.self.inside.separates_lines (arc_value c.self.inside.shared) x lt other
    (λ same. all x lt other (sym (ap (λ t. class_of t x) c.self.view_is) ∙ same))
    (sym (ap (λ t. class_of t x) c.deref.ensures) ∙ separates))
