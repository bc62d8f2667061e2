use Rattle.std.proofs.Common.{sym, ap, ◌∙◌, arith}
use Rattle.std.proofs.lemmas.List.{get_or_default}
use Rattle.ucd.specs.declared.bidi_class.BidiClass.TheVariants.{L, ON}
use Rattle.bidi.specs.Brackets.{is_other}
use Rattle.bidi.proofs.BracketLemmas.{stands_is, stands_as_before}
use Rattle.bidi.proofs.brackets.stands_inside.Goals as goal

pub returns-then-is_other-clause-value : goal.returns-then-is_other-clause-value
returns-then-is_other-clause-value c =
    stands_as_before c.args.left c.args.types.now c.args.before.now c.args.place c.args.closer c.args.next.now c.max-from.result c.next_toward.result
    c.requires.inside c.requires.sizes c.requires.clear (c.requires.kept (ap is_other (get_or_default c.args.types.now c.args.place ON L (omega arith)) ∙ sym c.is_other.ensures ∙ c.if-is_other.true))
    c.next_toward.ensures.reached (omega (arith, c.max-from.ensures)) (λ m above below. omega (arith, c.max-from.ensures))
    c.next_toward.ensures.passed c.next_toward.ensures.stops

pub returns-else-is_other-clause-value : goal.returns-else-is_other-clause-value
returns-else-is_other-clause-value c =
    stands_is c.args.left c.args.types.now c.args.place c.args.closer c.next_toward-else-is_other.result (omega arith) (omega arith)
    (λ m above below inside. c.next_toward-else-is_other.ensures.passed m (omega arith) below)
    (λ inside. c.next_toward-else-is_other.ensures.stops (omega arith))
