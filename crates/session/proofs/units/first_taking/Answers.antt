use Rattle.std.proofs.Common.{sym, ◌∙◌, arith}
use Rattle.session.proofs.ScanningLemmas.{scan_next}
use Rattle.session.specs.Units.{takes_columns}
use Rattle.session.proofs.units.first_taking.Goals as goal

pub loop-k-preserved : goal.loop-k-preserved
loop-k-preserved c = record {
  to = scan_next (takes_columns c.args.line.now) c.args.low c.args.end c.loop-k.k c.loop-k.invariant.to c.loop-k-test.true (sym c.takes_columns.ensures ∙ c.if-takes_columns.false);
  least = omega (arith, c.loop-k.invariant.least);
}
