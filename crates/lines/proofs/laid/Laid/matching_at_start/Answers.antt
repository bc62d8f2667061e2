use Rattle.std.proofs.Common.{◌≡◌, take, subst, arith}
use Rattle.lines.specs.Layouts.{visuals}
use Rattle.lines.proofs.MatchingLemmas.{length-visuals, start_more}
use Rattle.lines.proofs.laid.Laid.matching_at_start.Goals as goal

pub loop-k-init : goal.loop-k-init
loop-k-init c = c.requires.same_front

pub loop-k-preserved : goal.loop-k-preserved
loop-k-preserved c =
    let x = length-visuals c.args.self.now in
    let y = length-visuals c.args.other.now in
    start_more (visuals c.args.self.now) (visuals c.args.other.now) c.loop-k.k (omega arith) (omega arith) c.loop-k.invariant (c.is_same_line.ensures.yes c.if-not-is_same_line.false)

pub returns-then-not-is_same_line : goal.returns-then-not-is_same_line
returns-then-not-is_same_line c =
    let x = length-visuals c.args.self.now in
    let y = length-visuals c.args.other.now in
    record { in_first = omega arith; in_second = omega arith; same = c.loop-k.invariant; most = λ _ _ same. cc (c.if-not-is_same_line.true, c.is_same_line.ensures.no same) }

pub returns : goal.returns
returns c =
    let x = length-visuals c.args.self.now in
    let y = length-visuals c.args.other.now in
    let all : c.loop-k.k ≡ c.min-most.result = omega arith in
    record {
      in_first = omega arith;
      in_second = omega arith;
      same = subst (λ n. take n (visuals c.args.self.now) ≡ take n (visuals c.args.other.now)) all c.loop-k.invariant;
      most = λ first second. absurd (omega (arith, first, second));
    }
