use Rattle.std.proofs.Common.{◌≡◌, ◌++◌, length, map}
use Rattle.breaks.specs.Bases.{bases_of}
use Rattle.breaks.specs.Seen.{base_in, character_in}
use Rattle.breaks.proofs.bases.bases.Given as goal

abbrev pub invariant-loop-first : goal.invariant-loop-first
invariant-loop-first l = map base_in l.list.items ++ bases_of (map character_in l.left) ≡ bases_of (map character_in l.characters)

abbrev pub decreases-loop-first : goal.decreases-loop-first
decreases-loop-first l = length l.left
