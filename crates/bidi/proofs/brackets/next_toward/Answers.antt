use Rattle.std.proofs.Common.{sym, ◌∙◌, arith}
use Rattle.ucd.specs.declared.bidi_class.BidiClass.TheVariants.{L, ON}
use Rattle.bidi.specs.Brackets.{is_toward}
use Rattle.bidi.proofs.BracketLemmas.{none_more}
use Rattle.bidi.proofs.brackets.next_toward.Goals as goal

pub loop-at-preserved : goal.loop-at-preserved
loop-at-preserved c = record {
  reached = omega arith;
  bounded = omega arith;
  passed = none_more (is_toward c.args.left) c.args.types.now c.args.from c.loop-at.at ON L c.loop-at.invariant.passed (omega (arith, c.loop-at-test.true, c.requires.limit))
      (sym c.is_toward.ensures ∙ c.if-not-is_toward.true);
}
