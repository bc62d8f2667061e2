use Rattle.std.proofs.Common.{◌≡◌, ◌-◌, ◌∙◌, true, true≢false, length, drop, subst, sym, arith}
use Rattle.lines.specs.Layouts.{visuals}
use Rattle.lines.proofs.MatchingLemmas.{end_more, length-visuals, read_as, read_by}
use Rattle.lines.proofs.laid.Laid.matching_at_end.Goals as goal

pub loop-k-init : goal.loop-k-init
loop-k-init c = c.requires.same_back

pub loop-k-preserved : goal.loop-k-preserved
loop-k-preserved c =
    let x = length-visuals c.args.self.now in
    let y = length-visuals c.args.other.now in
    let same = c.is_same_line.ensures.yes c.if-not-is_same_line.false in
    end_more (visuals c.args.self.now) (visuals c.args.other.now) c.loop-k.k (omega arith) (omega arith) c.loop-k.invariant
    (read_as (visuals c.args.self.now) (visuals c.args.other.now) c.line_count-len.result c.line_count-other_len.result c.loop-k.k (omega arith) (omega arith) same)

pub returns-then-not-is_same_line : goal.returns-then-not-is_same_line
returns-then-not-is_same_line c =
    let x = length-visuals c.args.self.now in
    let y = length-visuals c.args.other.now in
    record {
      in_first = omega arith;
      in_second = omega arith;
      same = c.loop-k.invariant;
      most = λ first second same.
          let is : c.is_same_line.result ≡ true =
          c.is_same_line.ensures.no
          (read_by (visuals c.args.self.now) (visuals c.args.other.now) c.line_count-len.result c.line_count-other_len.result c.loop-k.k (omega arith) (omega arith) same) in
          absurd (true≢false (sym is ∙ c.if-not-is_same_line.true));
    }

pub returns : goal.returns
returns c =
    let x = length-visuals c.args.self.now in
    let y = length-visuals c.args.other.now in
    let all : c.loop-k.k ≡ c.min-most.result = omega arith in
    record {
      in_first = omega arith;
      in_second = omega arith;
      same = subst (λ n. drop (length (visuals c.args.self.now) - n) (visuals c.args.self.now) ≡ drop (length (visuals c.args.other.now) - n) (visuals c.args.other.now)) all c.loop-k.invariant;
      most = λ first second. absurd (omega (arith, first, second));
    }
