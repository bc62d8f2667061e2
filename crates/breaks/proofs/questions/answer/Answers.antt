use Rattle.ucd.specs.declared.version.Version.TheVariants.{V17_0}
use Rattle.breaks.specs.Symbols.{character_by}
use Rattle.breaks.specs.Walk17.{by_width}
use Rattle.std.proofs.Common.{ap, ◌∙◌}
use Rattle.breaks.proofs.QuestionLemmas17.{answered, passed_over}
use Rattle.breaks.proofs.questions.answer.Goals as goal

pub returns-then-symbol-ge-ATTACHED-clause-said : goal.returns-then-symbol-ge-ATTACHED-clause-said
returns-then-symbol-ge-ATTACHED-clause-said c =
    λ text. passed_over c.args.question _ (character_by V17_0 c.args.next) text c.symbol_17-symbol.ensures.below c.if-symbol-ge-ATTACHED.true
    c.symbol_17-symbol.ensures.shown

pub returns-clause-said : goal.returns-clause-said
returns-clause-said c =
    (answered c.args.question _ c.answer_at.result _ (character_by V17_0 c.args.next) c.requires.0 c.requires.1 c.symbol_17-symbol.ensures.below
    c.if-symbol-ge-ATTACHED.false c.symbol_17-symbol.ensures.shown c.answer_at.ensures (c.by_width.ensures ∙ ap (by_width c.answer_at.result) c.is_wide.ensures)).0

pub returns-clause-below : goal.returns-clause-below
returns-clause-below c =
    (answered c.args.question _ c.answer_at.result _ (character_by V17_0 c.args.next) c.requires.0 c.requires.1 c.symbol_17-symbol.ensures.below
    c.if-symbol-ge-ATTACHED.false c.symbol_17-symbol.ensures.shown c.answer_at.ensures (c.by_width.ensures ∙ ap (by_width c.answer_at.result) c.is_wide.ensures)).1
