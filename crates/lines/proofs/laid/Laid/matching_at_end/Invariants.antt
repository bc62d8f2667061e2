use Rattle.std.proofs.Common.{◌≡◌, ◌-◌, length, drop}
use Rattle.lines.specs.Layouts.{visuals}
use Rattle.lines.proofs.laid.Laid.matching_at_end.Given as goal

abbrev pub invariant-loop-k : goal.invariant-loop-k
invariant-loop-k l = drop (length (visuals l.self) - l.k) (visuals l.self) ≡ drop (length (visuals l.other) - l.k) (visuals l.other)
