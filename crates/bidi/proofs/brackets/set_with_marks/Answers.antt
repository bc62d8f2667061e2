use Rattle.std.proofs.Common.{sym, ap, ◌∙◌, arith}
use Rattle.std.proofs.lemmas.List.{get_or_default}
use Rattle.ucd.specs.declared.bidi_class.BidiClass.TheVariants.{L, ON}
use Rattle.ucd.specs.Classes.{is_nonspacing_mark}
use Rattle.bidi.proofs.BracketLemmas.{Marked-first, Marked-next, Marked-end}
use Rattle.bidi.proofs.brackets.set_with_marks.Goals as goal

pub loop-at-init : goal.loop-at-init
loop-at-init c = Marked-first c.args.explicit.now c.args.types.now c.args.direction c.args.place c.requires.place

pub loop-at-preserved : goal.loop-at-preserved
loop-at-preserved c = Marked-next _ _ _ _ _ _ L c.loop-at.invariant c.loop-at-test.true c.requires.explicit (sym c.is_nonspacing_mark.ensures ∙ c.if-is_nonspacing_mark.true)

pub returns-else-is_nonspacing_mark : goal.returns-else-is_nonspacing_mark
returns-else-is_nonspacing_mark c = Marked-end _ _ _ _ _ _ c.loop-at.invariant c.requires.explicit
    (λ within. ap is_nonspacing_mark (get_or_default c.args.explicit.now c.loop-at.at ON L (omega (arith, c.requires.explicit))) ∙ sym c.is_nonspacing_mark.ensures ∙ c.if-is_nonspacing_mark.false)

pub returns-after-loop-at : goal.returns-after-loop-at
returns-after-loop-at c = Marked-end _ _ _ _ _ _ c.loop-at.invariant c.requires.explicit (λ within. absurd (omega (arith, c.loop-at.invariant.sizes)))
