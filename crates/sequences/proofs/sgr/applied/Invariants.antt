use Rattle.std.proofs.Common.{◌≡◌, length}
use Rattle.sequences.specs.Looks.{applied_after}
use Rattle.sequences.specs.Parts.{parameters_after}
use Rattle.sequences.proofs.sgr.applied.Given as goal

abbrev pub invariant-loop-rest : goal.invariant-loop-rest
invariant-loop-rest l = applied_after l.skip l.look (parameters_after l.rest) ≡ applied_after 0 l.fn.look (parameters_after l.parameters)

abbrev pub decreases-loop-rest : goal.decreases-loop-rest
decreases-loop-rest l = length l.rest
