use Rattle.std.proofs.Common.{◌≡◌, map, take}
use Rattle.hordguli_fribidi.specs.Joining.{joining_at}
use Rattle.hordguli_fribidi.proofs.joins.put_joining_types.Given as goal

abbrev pub invariant-loop-at : goal.invariant-loop-at
invariant-loop-at l = take l.at l.joining ≡ map (joining_at l.index l.pages) (take l.at l.characters)
