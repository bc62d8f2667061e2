use Rattle.std.proofs.Common.{◌∙◌, sym, ap}
use Rattle.ucd.specs.Tables.{class_of}
use Rattle.ucd.proofs.PagedLemmas.{class_is}
use Rattle.ucd.proofs.paged.PagedTables.has_usual_separators.Goals as goal

-- the separators of the tables are usual if and only if the separators of the pages are
pub returns-clause-yes : goal.returns-clause-yes
returns-clause-yes c = λ is x lt other separates.
    c.self.inside.pages.usual is x lt other
    (sym (class_is c.self.inside.version c.self.inside.pages.index.items c.self.inside.pages.entries.items c.self.inside.brackets c.self.inside.mirrors x lt)
    ∙ ap (λ t. class_of t x) c.self.view_is ∙ separates)

pub returns-clause-no : goal.returns-clause-no
returns-clause-no c = λ isnt all.
    c.self.inside.pages.unusual isnt (λ x lt other separates. all x lt other
    (sym (ap (λ t. class_of t x) c.self.view_is)
    ∙ class_is c.self.inside.version c.self.inside.pages.index.items c.self.inside.pages.entries.items c.self.inside.brackets c.self.inside.mirrors x lt ∙ separates))
