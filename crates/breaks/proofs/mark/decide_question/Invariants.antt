use Rattle.std.proofs.Common.{◌≡◌, ◌<◌, true, map, drop}
use Rattle.breaks.specs.Passes.{bases_after}
use Rattle.breaks.specs.Symbols.{character_by}
use Rattle.breaks.proofs.mark.decide_question.Given as goal

-- the question at a character has the same answer as the original question
abbrev pub invariant-loop-i : goal.invariant-loop-i
invariant-loop-i g l =
    let read = map (character_by g.R.Rules.version) in
    let all = g.C.Characters.all l.characters in
    record {
      below : l.asked < g.R.Rules.outcome_count;
      question : g.R.Rules.is_question l.rules l.asked ≡ true;
      said : g.R.Rules.mark_of l.rules l.fn.question (bases_after (read (drop l.fn.after all)))
          ≡ g.R.Rules.mark_of l.rules l.asked (bases_after (read (drop l.i all)));
    }
