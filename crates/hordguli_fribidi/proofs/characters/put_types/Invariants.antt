use Rattle.std.proofs.Common.{◌≡◌, ◌≤◌, ◌-◌, length, map, take}
use Rattle.hordguli_fribidi.specs.Points.{type_at}
use Rattle.hordguli_fribidi.proofs.characters.put_types.Given as goal

abbrev pub invariant-loop-at : goal.invariant-loop-at
invariant-loop-at l = record { within : l.at ≤ length l.characters; done : take l.at l.types ≡ map (type_at l.index l.pages) (take l.at l.characters) }

abbrev pub decreases-loop-at : goal.decreases-loop-at
decreases-loop-at l = length l.characters - l.at
