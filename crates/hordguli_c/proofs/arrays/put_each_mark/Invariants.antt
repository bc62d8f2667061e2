use Rattle.std.proofs.Common.{◌≡◌, map, take}
use Rattle.hordguli_c.specs.Levels.{mark_number}
use Rattle.hordguli_c.proofs.arrays.put_each_mark.Given as goal

abbrev pub invariant-loop-at : goal.invariant-loop-at
invariant-loop-at l = take l.at l.array ≡ map mark_number (take l.at l.marks)
