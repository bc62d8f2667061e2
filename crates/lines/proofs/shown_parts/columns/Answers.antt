use Rattle.std.proofs.Common.{◌+◌, arith, refl}
use Rattle.lines.specs.CharInfos.{sized}
use Rattle.lines.proofs.FillingLemmas.{columns_group}
use Rattle.lines.proofs.shown_parts.columns.Goals as goal

pub loop-k-preserved : goal.loop-k-preserved
loop-k-preserved g c =
    let k = c.loop-k.k in
    let line = sized (g.S.Sizes.given c.args.sizes) c.args.line.now in
    let group = c.in-Some.group in
    record {
      sum = columns_group line k (k + 8) c.loop-k.columns group.columns _ (omega arith) refl c.loop-k.invariant.sum (c.in-Some.ensures.columns c.if-group.false c.loop-k.columns);
      most = omega (arith, c.loop-k.invariant.most, c.in-Some.ensures.most);
      within = c.loop-k-test.true;
    }
