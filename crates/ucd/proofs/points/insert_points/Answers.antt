use Rattle.std.proofs.Common.{arith}
use Rattle.std.proofs.lemmas.Bool.Decides.{nat_tests}
use Rattle.std.proofs.lemmas.Grind.{common_steps}
use Rattle.ucd.proofs.points.insert_points.Goals as goal

pub returns : goal.returns
returns g c k = grind (arith, nat_tests, common_steps, c.loop-point.invariant k)
