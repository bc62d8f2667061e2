use Rattle.std.proofs.Common.{◌∙◌, ap, sym}
use Rattle.std.specs.Arc.{arc_value}
use Rattle.ucd.proofs.LineLemmas.{version_if}
use Rattle.ucd.proofs.tables.Tables.version.Goals as goal

pub returns : goal.returns
returns c =
    c.version.ensures ∙ ap (λ t. t.version) c.deref.ensures
    ∙ sym (version_if c.self.inside.separates_lines (arc_value c.self.inside.shared)) ∙ ap (λ t. t.version) c.self.view_is
