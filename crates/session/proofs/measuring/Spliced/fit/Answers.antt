use Rattle.std.proofs.Common.{◌+◌, ap, ◌∙◌, arith}
use Rattle.session.specs.Measuring.{spliced}
use Rattle.session.proofs.MeasuringLemmas.{sum_more, sum_past, sum_whole}
use Rattle.session.proofs.measuring.Spliced.fit.Goals as goal

pub returns-in-None : goal.returns-in-None
returns-in-None c =
    sum_past (spliced c.args.self.now) c.args.from c.args.len c.requires c.loop-k.k c.loop-k.total c.loop-k.invariant.so_far c.loop-k-test.true (omega (arith, c.in-None.ensures, c.get.ensures))

pub loop-k-preserved : goal.loop-k-preserved
loop-k-preserved c = record {
  so_far =
      c.in-Some.ensures.1 ∙ ap (λ n. c.loop-k.total + n) c.get.ensures
      ∙ sum_more (spliced c.args.self.now) c.args.from c.args.len c.requires c.loop-k.k c.loop-k.total c.loop-k.invariant.so_far c.loop-k-test.true;
  few = omega (arith, c.in-Some.ensures.0, c.in-Some.ensures.1);
}

pub returns : goal.returns
returns c =
    sum_whole (spliced c.args.self.now) c.args.from c.args.len c.requires c.loop-k.k c.loop-k.total c.loop-k.invariant.so_far c.loop-k-test.false c.loop-k.invariant.few
