use Rattle.std.proofs.Common.{length, sym, ◌∙◌, arith}
use Rattle.session.proofs.ScanningLemmas.{back_next}
use Rattle.session.specs.Units.{is_in_unit}
use Rattle.session.proofs.units.after_rightmost.Goals as goal

pub loop-place-preserved : goal.loop-place-preserved
loop-place-preserved c =
    back_next (is_in_unit c.args.line.now c.args.first c.args.end) (length c.args.line.now.vtol) c.loop-place.place c.loop-place.invariant
    (omega (arith, c.loop-place-test.true)) (sym c.is_in_unit.ensures ∙ c.if-is_in_unit.false)
