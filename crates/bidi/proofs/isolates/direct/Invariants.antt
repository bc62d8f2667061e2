use Rattle.std.proofs.Common.{◌≡◌, map}
use Rattle.std.specs.List.{range_with_len}
use Rattle.ucd.specs.Classes.{class_at}
use Rattle.bidi.specs.Explicit.{directed_at}
use Rattle.bidi.proofs.isolates.direct.Given as goal

abbrev pub invariant-loop-at : goal.invariant-loop-at
invariant-loop-at l = l.acting.items ≡ map (λ k. directed_at l.classes k (class_at l.classes k)) (range_with_len 0 l.at)
