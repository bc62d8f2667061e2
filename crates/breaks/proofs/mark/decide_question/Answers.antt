use Rattle.std.proofs.Common.{refl, sym, ◌∙◌, arith}
use Rattle.breaks.specs.Symbols.{character_by}
use Rattle.breaks.proofs.WalkLemmas.{asks_on, ends_asking}
use Rattle.breaks.proofs.mark.decide_question.Goals as goal

pub loop-i-init : goal.loop-i-init
loop-i-init g c = record { below = c.requires.below; question = c.requires.question; said = refl }

pub loop-i-preserved : goal.loop-i-preserved
loop-i-preserved g c = record {
  below = c.answer-asked.ensures.below;
  question = c.in_default.ensures.cases;
  said =
      asks_on (character_by g.R.Rules.version) (g.C.Characters.all c.args.characters) (g.R.Rules.mark_of c.args.rules c.loop-i.asked) (g.R.Rules.mark_of c.args.rules c.answer-asked.result) c.loop-i.i _ _ (omega arith) c.get.ensures c.answer-asked.ensures.said
      c.loop-i.invariant.said;
}

pub returns : goal.returns
returns g c =
    c.answer_at_end.ensures ∙ sym (ends_asking (character_by g.R.Rules.version) (g.C.Characters.all c.args.characters) (g.R.Rules.mark_of c.args.rules c.loop-i.asked) c.loop-i.i (omega arith))
    ∙ sym c.loop-i.invariant.said
