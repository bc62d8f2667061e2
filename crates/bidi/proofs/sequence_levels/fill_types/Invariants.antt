use Rattle.std.proofs.Common.{◌≡◌, map, take}
use Rattle.ucd.specs.Classes.{class_at}
use Rattle.bidi.proofs.sequence_levels.fill_types.Given as goal

abbrev pub invariant-loop-place : goal.invariant-loop-place
invariant-loop-place l = l.types.items ≡ map (class_at l.all) (take l.place-index l.places)
