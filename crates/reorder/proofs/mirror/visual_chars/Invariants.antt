use Rattle.std.proofs.Common.{◌≡◌, take}
use Rattle.reorder.specs.Mirroring.{visual_chars}
use Rattle.reorder.proofs.mirror.visual_chars.Given as goal

abbrev pub invariant-loop-at : goal.invariant-loop-at
invariant-loop-at l = take l.at l.chars ≡ visual_chars l.tables l.levels l.line (take l.at l.vtol)
