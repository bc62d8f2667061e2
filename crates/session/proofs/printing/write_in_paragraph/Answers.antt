use Rattle.std.proofs.Common.{◌+◌, drop, take, sym, arith}
use Rattle.lines.specs.Layouts.{visuals}
use Rattle.lines.specs.Writing.{StoppedIn}
use Rattle.lines.proofs.WriteLemmas.{pieces-more, pieces-stopped, same_fault}
use Rattle.session.proofs.BorderLemmas.{length-visuals}
use Rattle.session.proofs.PrintLemmas.{line_pieces, line_pieces_all, line_pieces_whole, line_piece, line_within, part_few}
use Rattle.session.proofs.WidthLemmas.{none_read}
use Rattle.session.proofs.printing.write_in_paragraph.Goals as goal

pub overflow_add-from : goal.overflow_add-from
overflow_add-from g c = omega (arith, c.requires.within, c.line_count-lines.ensures, c.line_count-lines.type_inv, c.loop-n-test.true)

pub unreachable-requires : goal.unreachable-requires
unreachable-requires g c =
    none_read (visuals c.args.laid.now) (c.args.from + c.loop-n.n) c.in_default.ensures.nth (omega (arith, c.requires.within, c.loop-n-test.true, length-visuals c.args.laid.now))

pub loop-n-preserved : goal.loop-n-preserved
loop-n-preserved g c =
    let vs = visuals c.args.laid.now in
    let n = c.loop-n.n in
    let lines = take c.args.count (drop c.args.from vs) in
    record {
      passed = pieces-more (line_pieces c.args.width c.args.print.now lines) n
          (line_within c.args.width c.args.print.now vs c.args.from c.args.count n c.loop-n-test.true c.in-Some.line
          c.in-Some.ensures.nth)
          (line_piece c.args.width c.args.print.now vs c.args.from c.args.count n c.loop-n-test.true c.in-Some.line c.in-Some.ensures.nth) c.loop-n.invariant.passed c.in_ok-written.ensures.ok;
      counted = c.in_ok-written.ensures.counted;
    }

pub returns-in_err-written-clause-err : goal.returns-in_err-written-clause-err
returns-in_err-written-clause-err g c =
    let vs = visuals c.args.laid.now in
    let n = c.loop-n.n in
    let lines = take c.args.count (drop c.args.from vs) in
    let stopped = pieces-stopped (line_pieces c.args.width c.args.print.now lines) n
    (line_within c.args.width c.args.print.now vs c.args.from c.args.count n c.loop-n-test.true c.in-Some.line
    c.in-Some.ensures.nth)
    (line_piece c.args.width c.args.print.now vs c.args.from c.args.count n c.loop-n-test.true c.in-Some.line c.in-Some.ensures.nth) c.loop-n.invariant.passed c.in_err-written.ensures.err in
    same_fault _ _ (λ w. StoppedIn _ c.args.before _ _ w) c.from_residual.ensures.1
    (rw (sym (line_pieces_whole c.args.width c.args.print.now lines)) stopped)

pub returns-clause-ok : goal.returns-clause-ok
returns-clause-ok g c =
    let lines = take c.args.count (drop c.args.from (visuals c.args.laid.now)) in
    let all = line_pieces_all c.args.width c.args.print.now lines c.loop-n.n (omega (arith, c.loop-n-test.false, part_few (visuals c.args.laid.now) c.args.from c.args.count)) in
    rw (sym all) c.loop-n.invariant.passed
