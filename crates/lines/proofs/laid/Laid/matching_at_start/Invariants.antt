use Rattle.std.proofs.Common.{◌≡◌, take}
use Rattle.lines.specs.Layouts.{visuals}
use Rattle.lines.proofs.laid.Laid.matching_at_start.Given as goal

abbrev pub invariant-loop-k : goal.invariant-loop-k
invariant-loop-k l = take l.k (visuals l.self) ≡ take l.k (visuals l.other)
