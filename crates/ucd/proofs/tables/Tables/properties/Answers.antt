use Rattle.std.proofs.Common.{◌∙◌, ap, sym, arith}
use Rattle.std.specs.Arc.{arc_value}
use Rattle.ucd.specs.LineSeparators.{answers_if}
use Rattle.ucd.specs.Properties.{properties_of}
use Rattle.ucd.specs.Tables.{class_of, bracket_of, mirror_of, line_class_of, line_detail_of, is_wide_in, is_mark_in, is_future_pictograph_in}
use Rattle.ucd.proofs.LineLemmas.{properties_if}
use Rattle.ucd.proofs.tables.Tables.properties.Goals as goal

pub returns : goal.returns
unfolding class_of bracket_of mirror_of line_class_of line_detail_of is_wide_in is_mark_in is_future_pictograph_in
returns c =
    let separates = c.self.inside.separates_lines in
    c.for_lines_if.ensures ∙ ap (λ point. answers_if separates point c.properties.result) c.from.ensures
    ∙ ap (answers_if separates c.args.c) (c.properties.ensures ∙ ap (λ t. properties_of t c.args.c) c.deref.ensures)
    ∙ sym (properties_if separates (arc_value c.self.inside.shared) c.args.c (omega (arith, c.ranges.c)))
    ∙ ap (λ t. properties_of t c.args.c) c.self.view_is
