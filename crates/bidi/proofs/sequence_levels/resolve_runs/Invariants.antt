use Rattle.std.proofs.Common.{◌-◌, length}
use Rattle.bidi.specs.Paragraphs.{OfAllTexts}
use Rattle.bidi.proofs.LevelLemmas.{Resolves}
use Rattle.bidi.proofs.sequence_levels.resolve_runs.Given as goal

abbrev pub invariant-loop-start : goal.invariant-loop-start
invariant-loop-start l = OfAllTexts l.paragraph.brackets (length l.paragraph.retained.now.levels.items) (λ look text. Resolves look l.paragraph.base text
    l.paragraph.retained.now.classes.items l.paragraph.retained.now.levels.items l.paragraph.retained.now.types.items l.start l.continued l.done)

abbrev pub decreases-loop-start : goal.decreases-loop-start
decreases-loop-start l = length l.paragraph.retained.now.levels.items - l.start
