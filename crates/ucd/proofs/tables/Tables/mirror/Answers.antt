use Rattle.std.proofs.Common.{◌∙◌, ap, sym}
use Rattle.std.specs.Arc.{arc_value}
use Rattle.ucd.specs.Tables.{mirror_of}
use Rattle.ucd.proofs.LineLemmas.{mirror_if}
use Rattle.ucd.proofs.tables.Tables.mirror.Goals as goal

pub returns : goal.returns
unfolding mirror_of
returns c =
    c.mirror.ensures ∙ ap (λ t. mirror_of t c.args.c) c.deref.ensures
    ∙ sym (mirror_if c.self.inside.separates_lines (arc_value c.self.inside.shared) c.args.c)
    ∙ ap (λ t. mirror_of t c.args.c) c.self.view_is
