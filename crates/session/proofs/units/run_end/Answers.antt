use Rattle.std.proofs.Common.{◌≡◌, length, get_or, ap, sym, ◌∙◌, arith}
use Rattle.std.proofs.lemmas.Bool.Decides.{nat_tests}
use Rattle.session.proofs.ScanningLemmas.{scan_next}
use Rattle.session.specs.Units.{is_at_other}
use Rattle.session.proofs.units.run_end.Goals as goal

pub loop-end-preserved : goal.loop-end-preserved
loop-end-preserved c =
    let line = c.args.line.now in
    let same : get_or line.levels c.loop-end.end 0 ≡ get_or line.levels c.args.k 0 =
    sym c.level_of.ensures ∙ c.if-level_of-level.false ∙ c.level_of-level.ensures in
    record {
      to = scan_next (is_at_other line c.args.k) c.args.k (length line.levels) c.loop-end.end c.loop-end.invariant.to
          (omega (arith, c.loop-end-test.true, ap length c.levels-len.ensures)) (grind (arith, nat_tests, same));
      least = omega (arith, c.loop-end.invariant.least);
    }
