use Rattle.std.proofs.Common.{◌≡◌, map, take}
use Rattle.lines.specs.Columns.{width_at}
use Rattle.hordguli_c.proofs.arrays.put_each_columns.Given as goal

abbrev pub invariant-loop-at : goal.invariant-loop-at
invariant-loop-at l = take l.at l.array ≡ map (width_at l.line) (take l.at l.line.vtol)
