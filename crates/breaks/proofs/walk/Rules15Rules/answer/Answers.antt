use Rattle.std.proofs.Common.{refl}
use Rattle.ucd.specs.declared.version.Version.TheVariants.{V15_0}
use Rattle.breaks.specs.Symbols.{character_by}
use Rattle.breaks.specs.declared.table.TheConstants.{MAY}
use Rattle.breaks.proofs.BoolLemmas.{different_is}
use Rattle.breaks.proofs.QuestionLemmas.{answered, passed_over}
use Rattle.breaks.proofs.walk.Rules15Rules.answer.Goals as goal

pub returns-then-symbol-ge-ATTACHED-clause-said : goal.returns-then-symbol-ge-ATTACHED-clause-said
returns-then-symbol-ge-ATTACHED-clause-said c =
    λ text. passed_over c.args.self.whole_numbers c.args.question _ (character_by V15_0 c.args.next) text c.symbol_of-symbol.ensures.below c.if-symbol-ge-ATTACHED.true
    c.symbol_of-symbol.ensures.shown

pub returns-else-symbol-eq-DIGIT-clause-said : goal.returns-else-symbol-eq-DIGIT-clause-said
returns-else-symbol-eq-DIGIT-clause-said c =
    answered c.args.self.whole_numbers c.args.question _ MAY (character_by V15_0 c.args.next) c.requires.question c.symbol_of-symbol.ensures.below c.if-symbol-ge-ATTACHED.false
    c.symbol_of-symbol.ensures.shown (rw (different_is _ _ c.if-symbol-eq-DIGIT.false) refl)
