use Rattle.std.proofs.Common.{◌≡◌, map, take}
use Rattle.breaks.specs.Bases.{character}
use Rattle.breaks.specs.Seen.{character_in}
use Rattle.breaks.proofs.bases.characters.Given as goal

abbrev pub invariant-loop-k : goal.invariant-loop-k
invariant-loop-k l = map character_in l.list.items ≡ map (character l.tables) (take l.k l.text)
