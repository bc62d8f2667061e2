use Rattle.std.proofs.Common.{arith}
use Rattle.std.proofs.lemmas.Grind.{common_steps}
use Rattle.ucd.proofs.Parts.{points_last}
use Rattle.ucd.proofs.grammar.points.Goals as goal

pub returns : goal.returns
returns c = grind (arith, common_steps, points_last c.cut_near.result.0.now c.in_ok-last.last.now)
