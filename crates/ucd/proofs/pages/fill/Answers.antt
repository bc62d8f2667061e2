use Rattle.std.proofs.Common.{◌≡◌, sym, ◌∙◌, ap, subst, arith}
use Rattle.ucd.specs.Runs.{ReachesTo}
use Rattle.ucd.specs.Said.{said}
use Rattle.ucd.proofs.PageLemmas.{filled_more}
use Rattle.ucd.proofs.pages.fill.Goals as goal

pub loop-point-preserved : goal.loop-point-preserved
loop-point-preserved c =
    let before = c.loop-point.invariant in
    let end : c.run-run.result.end ≡ c.move_to.new.self.run.end = ap (λ r. r.end) c.run-run.ensures in
    record {
      len = c.set_all.auto.page ∙ before.len;
      from = omega (arith, end);
      to = omega (arith, end);
      run = (omega (arith, end), omega (arith, end), c.move_to.ensures.end.1);
      reaches = λ k first.
          let here = c.move_to.ensures.reaches k (before.reaches k first) in
          record { from = omega (arith, end); to = omega (arith, end); within = here.within; run = here.run; later = here.later };
      filled = λ k first.
          let here = c.move_to.ensures.reaches k (before.reaches k first) in
          filled_more (said k) c.loop-point.page c.set_all.new.page c.run-run.result.properties c.args.start c.loop-point.point c.min-stop.result
          (omega arith) (omega (arith, end)) (before.filled k first)
          (λ x low high. here.run x (omega arith) (omega (arith, end)) ∙ sym (ap (λ r. r.properties) c.run-run.ensures)) c.set_all.ensures;
    }

pub returns-clause-reaches : goal.returns-clause-reaches
returns-clause-reaches c k first = subst (ReachesTo k c.loop-point.runs) {x = c.loop-point.point} (omega arith) (c.loop-point.invariant.reaches k first)
