use Rattle.std.proofs.Common.{◌+◌, take, arith}
use Rattle.std.proofs.lemmas.List.{take_rest, length-drop}
use Rattle.ucd.proofs.PlainLines.{single_points, single_word, range_points, range_word}
use Rattle.ucd.proofs.plain.leading_points.Goals as goal

pub returns-then-line-end-clause-points : goal.returns-then-line-end-clause-points
returns-then-line-end-clause-points c = single_points (take c.in_ok-first.end c.args.line.now) c.in_ok-first.first c.in_ok-first.ensures.point

pub returns-then-line-end-clause-word : goal.returns-then-line-end-clause-word
returns-then-line-end-clause-word c = single_word c.args.line.now c.in_ok-first.end c.in_ok-first.first c.in_ok-first.ensures.within c.in_ok-first.ensures.point

pub returns-clause-points : goal.returns-clause-points
returns-clause-points c =
    let last = rw (take_rest c.args.line.now (c.in_ok-first.end + 2)) at c.in_ok-last.ensures in
    range_points c.args.line.now c.in_ok-first.end c.in_ok-last.count c.in_ok-first.first c.in_ok-last.last
    (omega (arith, last.within, length-drop (c.in_ok-first.end + 2) c.args.line.now)) c.in_ok-first.ensures.point last.point c.if-line-end-ne46.false c.if-line-end-ne46-2.false

pub returns-clause-word : goal.returns-clause-word
returns-clause-word c =
    let last = rw (take_rest c.args.line.now (c.in_ok-first.end + 2)) at c.in_ok-last.ensures in
    range_word c.args.line.now c.in_ok-first.end c.in_ok-last.count c.in_ok-first.first c.in_ok-last.last
    (omega (arith, last.within, length-drop (c.in_ok-first.end + 2) c.args.line.now)) c.in_ok-first.ensures.point last.point c.if-line-end-ne46.false c.if-line-end-ne46-2.false
