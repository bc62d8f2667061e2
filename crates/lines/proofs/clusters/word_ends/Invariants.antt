use Rattle.std.proofs.Common.{◌≡◌, ◌++◌}
use Rattle.std.specs.List.{flat_map}
use Rattle.unicode_segmentation.specs.Iter.{word_bounds_left}
use Rattle.lines.specs.Clusters.{ends_of}
use Rattle.lines.specs.Words.{word_ends}
use Rattle.lines.proofs.clusters.word_ends.Given as goal

-- the ends so far, followed by those of the remaining segments, are the word boundaries of the text
abbrev pub invariant-loop-word : goal.invariant-loop-word
invariant-loop-word l = l.ends.items ++ flat_map ends_of (word_bounds_left l.word-iterator) ≡ word_ends l.text
