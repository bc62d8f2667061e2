use Rattle.std.proofs.Common.{◌≡◌, length}
use Rattle.lines.specs.Engine.{rules_of}
use Rattle.terminal.specs.Pieces.{has_over}
use Rattle.terminal.proofs.block.has_over.Given as goal

abbrev pub invariant-loop-rest : goal.invariant-loop-rest
invariant-loop-rest l = has_over (rules_of l.engine) l.rest ≡ has_over (rules_of l.engine) l.characters

abbrev pub decreases-loop-rest : goal.decreases-loop-rest
decreases-loop-rest l = length l.rest
