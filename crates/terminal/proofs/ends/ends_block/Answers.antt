use Rattle.std.proofs.Common.{◌∙◌, ◌&&◌, ap, sym}
use Rattle.std.proofs.lemmas.Bool.{ne_eqb}
use Rattle.lines.specs.Engine.{rules_of}
use Rattle.lines.specs.Layouts.{cut_by}
use Rattle.ucd.specs.Tables.{class_of}
use Rattle.terminal.specs.Texts.{next_character}
use Rattle.terminal.proofs.EndLemmas.{cut_same}
use Rattle.terminal.proofs.ends.ends_block.Goals as goal

pub returns : goal.returns
returns c =
    let rules = rules_of c.args.engine.now in
    let char = c.args.c in
    let next = next_character c.args.text.now in
    c.is_cut-2.ensures ∙ cut_same (class_of rules.tables) char 0 next (ne_eqb char 13 c.if-c-eq13.false)
    ∙ ap (λ b. b && cut_by rules char next) (sym (sym c.is_apart.ensures ∙ c.if-not-is_apart.false))
