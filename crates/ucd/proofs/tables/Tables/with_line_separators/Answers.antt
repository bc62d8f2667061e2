use Rattle.std.proofs.Common.{◌∙◌, ap, sym, subst, option_map}
use Rattle.std.specs.Arc.{arc_value}
use Rattle.ucd.specs.Contents.{joined}
use Rattle.ucd.specs.LineSeparators.{contents_if, with_line_separators}
use Rattle.ucd.specs.LineTables.{SeparatesLines}
use Rattle.ucd.specs.declared.tables.Tables.{Tables}
use Rattle.ucd.proofs.ContentLemmas.{lines_joined}
use Rattle.ucd.proofs.LineLemmas.{changed_if, separates_lines}
use Rattle.ucd.proofs.tables.Tables.with_line_separators.Goals as goal

-- tables that already separate lines are changed again, which has no effect
pub returns-clause-tables : goal.returns-clause-tables
returns-clause-tables c =
    let inside = c.self.inside in
    let t : Tables = contents_if inside.separates_lines (arc_value inside.shared) in
    let shared = option_map arc_value c.in_ok-joining.joining in
    ap (λ u. joined shared (with_line_separators u)) c.in_ok-shared.ensures
    ∙ ap (joined shared) (changed_if inside.separates_lines (arc_value inside.shared))
    ∙ ap (λ joining. joined joining (with_line_separators t)) c.in_ok-joining.ensures
    ∙ ap (λ u. joined u.joining (with_line_separators t)) (sym c.self.view_is)
    ∙ sym (lines_joined (option_map arc_value inside.joining) t)
    ∙ ap with_line_separators c.self.view_is

pub returns-clause-separates : goal.returns-clause-separates
returns-clause-separates c =
    subst (SeparatesLines c.args.self.now) (sym (returns-clause-tables c)) (separates_lines c.args.self.now)
