use Rattle.std.proofs.Common.{◌≡◌, map, take}
use Rattle.bidi.specs.BracketTypes.{bracket_at}
use Rattle.bidi.proofs.sequence_levels.fill_brackets.Given as goal

abbrev pub invariant-loop-place : goal.invariant-loop-place
invariant-loop-place l = l.brackets.items ≡ map (bracket_at l.all) (take l.place-index l.places)
