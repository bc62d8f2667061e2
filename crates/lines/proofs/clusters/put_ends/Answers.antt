use Rattle.std.proofs.Common.{false, arith}
use Rattle.std.proofs.lemmas.List.{get_or_default}
use Rattle.lines.proofs.BareLemmas.{with_more}
use Rattle.lines.proofs.clusters.put_ends.Goals as goal

pub loop-k-preserved : goal.loop-k-preserved
loop-k-preserved c =
    with_more c.args.infos.now c.loop-k.infos c.args.ends.now c.loop-k.k _ c.loop-k-test.true c.requires
    (get_or_default c.args.ends.now c.loop-k.k false _ (omega (arith, c.requires, c.loop-k-test.true))) c.loop-k.invariant
