use Rattle.std.proofs.Common.{◌∙◌, ap, sym}
use Rattle.std.specs.Arc.{arc_value}
use Rattle.ucd.specs.Tables.{bracket_of}
use Rattle.ucd.proofs.LineLemmas.{bracket_if}
use Rattle.ucd.proofs.tables.Tables.bracket.Goals as goal

pub returns : goal.returns
unfolding bracket_of
returns c =
    c.bracket.ensures ∙ ap (λ t. bracket_of t c.args.c) c.deref.ensures
    ∙ sym (bracket_if c.self.inside.separates_lines (arc_value c.self.inside.shared) c.args.c)
    ∙ ap (λ t. bracket_of t c.args.c) c.self.view_is
