use Rattle.std.proofs.Common.{◌≡◌, map, take}
use Rattle.bidi.specs.Weak.{w6_type}
use Rattle.bidi.proofs.weak_steps.w6.Given as goal

abbrev pub invariant-loop-k : goal.invariant-loop-k
invariant-loop-k l = l.list.items ≡ map w6_type (take l.k l.types)
