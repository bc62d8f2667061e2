use Rattle.std.proofs.Common.{◌≡◌, ◌∙◌, ◌+◌, ◌-◌, ap, refl, inl, inr, rules, below_more, arith}
use Rattle.std.proofs.lemmas.Bool.Decides.{nat_tests}
use Rattle.std.proofs.lemmas.Grind.{common_steps}
use Rattle.ucd.specs.Images.{found, point_at}
use Rattle.ucd.proofs.ImagePoints.{found_more, point_more}
use Rattle.ucd.proofs.image_points.points_in.Goals as goal

pub loop-k-init : goal.loop-k-init
unfolding found
loop-k-init g c = record {
  points = λ x. search rules;
  are = λ k lt. absurd (omega arith);
  below = λ j lt. absurd (omega arith);
  last = inl refl;
  room = omega arith;
}

pub loop-k-preserved : goal.loop-k-preserved
loop-k-preserved g c =
    let k = c.loop-k.k in
    let is = c.in-Some.ensures.0 in
    let least = c.in-Some.ensures.1 in
    let within = c.in-Some.ensures.2 in
    let value = c.in-Some.ensures.3 in
    record {
      points = λ x. rw (found_more g.P.Point.decode c.args.bytes.now c.args.start k x) (grind (arith, nat_tests, common_steps, c.loop-k.invariant.points x));
      are = below_more _ _ c.loop-k.invariant.are
          (point_more g.P.Point.decode c.args.bytes.now c.args.start k c.loop-k.next c.in-Some.value c.loop-k.invariant.below (omega (arith, is, least)) (omega (arith, is, within)) value);
      below = below_more _ _ (λ j lt. omega (arith, c.loop-k.invariant.below j lt, least)) (omega (arith, is));
      last = inr (omega arith, let same : c.loop-k.k ≡ c.loop-k.k + 1 - 1 = omega arith in ap (λ n. n + 1) is ∙ ap (λ n. point_at g.P.Point.decode c.args.bytes.now c.args.start n + 1) same);
      room = omega (arith, within);
    }
