use Rattle.std.proofs.Common.{◌≡◌, sum, take}
use Rattle.session.proofs.room.sum_of.Given as goal

-- `total` is the sum of the advances so far
abbrev pub invariant-loop-advance : goal.invariant-loop-advance
invariant-loop-advance l = l.total ≡ sum (take l.advance-index l.advances)
