use Rattle.std.proofs.Common.{◌≡◌, map, take}
use Rattle.hordguli_fribidi.specs.Points.{type_at}
use Rattle.hordguli_fribidi.proofs.characters.put_each_type.Given as goal

abbrev pub invariant-loop-at : goal.invariant-loop-at
invariant-loop-at l = take l.at l.types ≡ map (type_at l.index l.pages) (take l.at l.characters)
