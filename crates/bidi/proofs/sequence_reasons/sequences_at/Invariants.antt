use Rattle.std.proofs.Common.{◌≡◌, length, map, take}
use Rattle.bidi.specs.Paragraphs.{OfAllTexts, sequence_in}
use Rattle.bidi.specs.Reasons.{sequence_of, sequence_reasons}
use Rattle.bidi.proofs.sequence_reasons.sequences_at.Given as goal

abbrev pub invariant-loop-k : goal.invariant-loop-k
invariant-loop-k l = OfAllTexts l.paragraph.brackets (length l.paragraph.retained.now.levels.items) (λ look text.
    map sequence_of l.list.items ≡ map (λ start. sequence_reasons look l.paragraph.base text l.paragraph.retained.now.classes.items l.paragraph.retained.now.levels.items
    l.paragraph.retained.now.types.items (sequence_in l.paragraph start)) (take l.k l.starts))
