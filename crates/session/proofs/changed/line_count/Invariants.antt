use Rattle.std.proofs.Common.{◌≡◌, length, sum_by, take}
use Rattle.session.proofs.changed.line_count.Given as goal

abbrev pub invariant-loop-i : goal.invariant-loop-i
invariant-loop-i l = l.count ≡ sum_by (λ k. length k.lines) (take l.i l.new)
