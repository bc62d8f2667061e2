use Rattle.std.proofs.Common.{◌≡◌, ◌<◌, ◌∙◌, length, sym, ap, arith}
use Rattle.lines.specs.LaidTexts.{advances_in}
use Rattle.lines.specs.Layouts.{start_of}
use Rattle.lines.specs.Writing.{StoppedIn}
use Rattle.std.proofs.lemmas.List.{length-map}
use Rattle.lines.proofs.PageLemmas.{pieces, piece_at, piece_within, pieces_all, pieces_whole}
use Rattle.lines.proofs.WriteLemmas.{pieces-more, pieces-stopped, same_fault}
use Rattle.lines.proofs.fill.Fill.write_after.Goals as goal

-- writing one more line preserves the loop invariant
pub loop-n-preserved : goal.loop-n-preserved
loop-n-preserved g c =
    let lines = c.args.self.now.lines in
    let n = c.loop-n.n in
    let count : length c.starts-n-end.result.now ≡ length lines = ap length c.starts-n-end.ensures ∙ length-map lines start_of in
    let within : n < length lines = omega (arith, count, c.loop-n-test.true) in
    let next = piece_at c.args.width c.args.print.now c.args.of.now.base c.args.of.now.tab_width (advances_in c.args.of.now) c.args.of.now.text.now lines n _ within c.in-Some.ensures in
    record {
      passed = pieces-more (pieces c.args.width c.args.print.now c.args.of.now.base c.args.of.now.tab_width (advances_in c.args.of.now) c.args.of.now.text.now lines) n
          (piece_within c.args.width c.args.print.now c.args.of.now.base c.args.of.now.tab_width (advances_in c.args.of.now) c.args.of.now.text.now lines n within) next c.loop-n.invariant.passed c.in_ok-written.ensures.ok;
      counted = c.in_ok-written.ensures.counted;
    }

pub returns-in_err-written-clause-err : goal.returns-in_err-written-clause-err
returns-in_err-written-clause-err g c =
    let lines = c.args.self.now.lines in
    let n = c.loop-n.n in
    let count : length c.starts-n-end.result.now ≡ length lines = ap length c.starts-n-end.ensures ∙ length-map lines start_of in
    let within : n < length lines = omega (arith, count, c.loop-n-test.true) in
    let next = piece_at c.args.width c.args.print.now c.args.of.now.base c.args.of.now.tab_width (advances_in c.args.of.now) c.args.of.now.text.now lines n _ within c.in-Some.ensures in
    let stopped = pieces-stopped (pieces c.args.width c.args.print.now c.args.of.now.base c.args.of.now.tab_width (advances_in c.args.of.now) c.args.of.now.text.now lines) n
    (piece_within c.args.width c.args.print.now c.args.of.now.base c.args.of.now.tab_width (advances_in c.args.of.now) c.args.of.now.text.now lines n within) next c.loop-n.invariant.passed c.in_err-written.ensures.err in
    same_fault _ _ (λ w. StoppedIn _ _ _ _ w) c.from_residual.ensures.1
    (rw (sym (pieces_whole c.args.width c.args.print.now c.args.of.now.base c.args.of.now.tab_width (advances_in c.args.of.now) c.args.of.now.text.now lines)) stopped)

-- after the loop, all lines are written
pub returns-clause-ok : goal.returns-clause-ok
returns-clause-ok g c =
    let lines = c.args.self.now.lines in
    let count : length c.starts-n-end.result.now ≡ length lines = ap length c.starts-n-end.ensures ∙ length-map lines start_of in
    let all = pieces_all c.args.width c.args.print.now c.args.of.now.base c.args.of.now.tab_width (advances_in c.args.of.now) c.args.of.now.text.now lines c.loop-n.n (omega (arith, count, c.loop-n-test.false)) in
    rw (sym all) c.loop-n.invariant.passed
