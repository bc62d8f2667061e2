use Rattle.std.proofs.Common.{◌≡◌, ◌-◌, ◌+◌, ◌++◌, [], rules, length, drop, take, min, sym, ap, subst, ◌∙◌, arith}
use Rattle.std.specs.List.{flat_map}
use Rattle.std.proofs.lemmas.List.Concat.{flat_map-append}
use Rattle.lines.specs.Bytes.{line_bytes}
use Rattle.lines.specs.Layouts.{Layout, visuals}
use Rattle.lines.specs.Writing.{PassedOn, StoppedIn}
use Rattle.lines.proofs.WriteLemmas.{passed-append, stopped-before, stopped-after, same_fault}
use Rattle.session.specs.Kept.{lines_in}
use Rattle.session.proofs.BorderLemmas.{length-lines, item_read, lines_of}
use Rattle.session.proofs.PrintLemmas.{front_more, lines_begin}
use Rattle.session.proofs.WidthLemmas.{none_read}
use Rattle.session.proofs.printing.write_lines.Goals as goal

pub find_line-found-requires : goal.find_line-found-requires
find_line-found-requires g c = omega (arith, c.requires.within, c.if-count-eq0.false, length-lines (g.S.ParagraphStore.items c.args.store.now))

pub loop-index-init : goal.loop-index-init
loop-index-init g c =
    let kept = g.S.ParagraphStore.items c.args.store.now in
    record {
      front = [];
      parts = ap (take c.args.count) (lines_begin kept c.args.first c.find_line-found.result c.find_line-found.ensures.found);
      here = λ item read. omega (
        arith,
        c.find_line-found.ensures.found.within,
        ap (λ (x : Layout). length x.lines)
            (item_read lines_of kept c.args.first c.find_line-found.result c.find_line-found.ensures.found item read),
      );
      passed = search rules;
      counted = c.requires.before;
    }

pub unreachable-requires : goal.unreachable-requires
unreachable-requires g c = none_read (g.S.ParagraphStore.items c.args.store.now) c.loop-index.index c.in_default.ensures (omega (arith, c.loop-index-test.true, c.count-index-end.ensures))

pub returns-in_err-written-clause-err : goal.returns-in_err-written-clause-err
returns-in_err-written-clause-err g c =
    let kept = g.S.ParagraphStore.items c.args.store.now in
    let bytes = flat_map (line_bytes c.args.width c.args.print.now) in
    let l = c.in-Some.kept.now in
    let piece = take c.min-part.result (drop c.loop-index.from (visuals l)) in
    let rest = take (c.loop-index.left - c.min-part.result) (lines_in (drop (c.loop-index.index + 1) kept)) in
    let front = c.loop-index.invariant.front in
    let whole = front_more kept c.loop-index.index c.loop-index.from c.loop-index.left c.min-part.result l
    c.in-Some.ensures (c.loop-index.invariant.here l c.in-Some.ensures) (c.min-part.ensures
    ∙ ap (λ n. min c.loop-index.left (n - c.loop-index.from)) c.lines.ensures) front _ c.loop-index.invariant.parts
    in
    let split : (bytes front ++ bytes piece) ++ bytes rest ≡ bytes (take c.args.count (drop c.args.first (lines_in kept))) =
    ap (λ bs. bs ++ bytes rest) (sym (flat_map-append (line_bytes c.args.width c.args.print.now) front piece))
    ∙ sym (flat_map-append (line_bytes c.args.width c.args.print.now) (front ++ piece) rest) ∙ ap bytes whole in
    let part : c.laid.result.now ≡ l = c.laid.ensures in
    let err = subst (λ (x : Layout). StoppedIn (bytes (take c.min-part.result (drop c.loop-index.from (visuals x))))
    c.loop-index.written (g.W.Sink.state c.loop-index.writer) (g.W.Sink.state c.write_in_paragraph.new.writer)
    c.in_err-written.field-0.0.written) part c.in_err-written.ensures.err in
    same_fault _ _ (λ w. StoppedIn _ c.args.before _ _ w) c.from_residual.ensures.1
    (subst (λ bs. StoppedIn bs c.args.before (g.W.Sink.state c.args.writer.now) (g.W.Sink.state c.write_in_paragraph.new.writer) c.in_err-written.field-0.0.written) split
    (stopped-before (bytes rest) (stopped-after c.loop-index.invariant.passed err)))

pub loop-index-preserved : goal.loop-index-preserved
loop-index-preserved g c =
    let kept = g.S.ParagraphStore.items c.args.store.now in
    let bytes = flat_map (line_bytes c.args.width c.args.print.now) in
    let l = c.in-Some.kept.now in
    let piece = take c.min-part.result (drop c.loop-index.from (visuals l)) in
    let front = c.loop-index.invariant.front in
    let whole = front_more kept c.loop-index.index c.loop-index.from c.loop-index.left c.min-part.result l
    c.in-Some.ensures (c.loop-index.invariant.here l c.in-Some.ensures) (c.min-part.ensures
    ∙ ap (λ n. min c.loop-index.left (n - c.loop-index.from)) c.lines.ensures) front _ c.loop-index.invariant.parts
    in
    let ok = subst (λ (x : Layout). PassedOn (bytes (take c.min-part.result (drop c.loop-index.from (visuals x))))
    c.loop-index.written (g.W.Sink.state c.loop-index.writer) (g.W.Sink.state c.write_in_paragraph.new.writer)
    c.in_ok-written.written) c.laid.ensures c.in_ok-written.ensures.ok in
    record {
      front = front ++ piece;
      parts = whole;
      here = λ item read. omega arith;
      passed = subst (λ bs. PassedOn bs c.args.before (g.W.Sink.state c.args.writer.now)
          (g.W.Sink.state c.write_in_paragraph.new.writer) c.in_ok-written.written)
          (sym (flat_map-append (line_bytes c.args.width c.args.print.now) front piece))
          (passed-append c.loop-index.invariant.passed ok);
      counted = c.in_ok-written.ensures.counted;
    }
