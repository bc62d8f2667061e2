use Rattle.std.proofs.Common.{◌≡◌, sym, subst, arith}
use Rattle.ucd.specs.Runs.{ReachesTo}
use Rattle.ucd.proofs.runs.Runs.move_to.Goals as goal

pub returns-then-point-self-clause-reaches : goal.returns-then-point-self-clause-reaches
returns-then-point-self-clause-reaches c k reaches =
    let here : c.args.point ≡ c.args.self.now.run.end = omega arith in
    subst (ReachesTo k c.move_on.new.self) (sym here) (c.move_on.ensures.reaches k (subst (ReachesTo k c.args.self.now) here reaches))
