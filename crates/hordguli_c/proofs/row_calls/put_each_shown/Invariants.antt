use Rattle.std.proofs.Common.{◌≡◌, take}
use Rattle.reorder.specs.Mirroring.{visual_chars}
use Rattle.hordguli_c.proofs.row_calls.put_each_shown.Given as goal

abbrev pub invariant-loop-at : goal.invariant-loop-at
invariant-loop-at l = take l.at l.array ≡ visual_chars l.tables l.levels l.text (take l.at l.vtol)
