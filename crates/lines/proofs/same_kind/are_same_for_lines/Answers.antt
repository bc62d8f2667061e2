use Rattle.std.proofs.Common.{◌∙◌, ap, sym}
use Rattle.ucd.specs.Answers.{line_answers, line_answers_at}
use Rattle.ucd.specs.declared.properties.Properties.{Properties}
use Rattle.breaks.specs.Symbols.{character_in}
use Rattle.lines.proofs.same_kind.are_same_for_lines.Goals as goal

pub returns-then-line_index-clause-yes : goal.returns-then-line_index-clause-yes
returns-then-line_index-clause-yes c same =
    let version = c.args.tables.now.version in
    let read = λ (p : Properties). character_in version (line_answers p) in
    sym (ap read c.properties-other.ensures)
    ∙ ap (character_in version) (c.line_index-2.ensures.answers ∙ ap line_answers_at (sym c.if-line_index.true) ∙ sym c.line_index.ensures.answers)
    ∙ ap read c.properties-one.ensures
