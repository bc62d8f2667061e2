use Rattle.std.proofs.Common.{◌≡◌, take}
use Rattle.hordguli_c.proofs.arrays.put_each_character.Given as goal

abbrev pub invariant-loop-at : goal.invariant-loop-at
invariant-loop-at l = take l.at l.array ≡ take l.at l.list
