use Rattle.std.proofs.Common.{◌∙◌, List, ℕ, IfErr, IfOk, encode_utf8_all, get_or, map, slice_range, ap, subst}
use Rattle.lines.specs.Visual.{Visual}
use Rattle.lines.specs.Writing.{PassedOn, StoppedIn}
use Rattle.lines.proofs.CellLemmas.{ordered_places}
use Rattle.lines.proofs.printing.bytes.write_between.Goals as goal

pub returns-then-print-clause-ok : goal.returns-then-print-clause-ok
returns-then-print-clause-ok g c =
    let print = c.args.print.now in
    let same = ap (λ (v : Visual). map (λ k. get_or v.text k 0) (slice_range v.vtol c.args.start c.args.end)) c.line.view_is
    ∙ ordered_places print c.args.line.now c.args.start c.args.end c.if-print.true in
    subst (λ (cs : List ℕ). IfOk c.write_places.result (λ n. PassedOn (encode_utf8_all cs) c.args.before (g.W.Sink.state c.args.writer.now) (g.W.Sink.state c.write_places.new.writer) n))
    same c.write_places.ensures.ok

pub returns-then-print-clause-err : goal.returns-then-print-clause-err
returns-then-print-clause-err g c =
    let print = c.args.print.now in
    let same = ap (λ (v : Visual). map (λ k. get_or v.text k 0) (slice_range v.vtol c.args.start c.args.end)) c.line.view_is
    ∙ ordered_places print c.args.line.now c.args.start c.args.end c.if-print.true in
    subst (λ (cs : List ℕ). IfErr c.write_places.result
    (λ fault. StoppedIn (encode_utf8_all cs) c.args.before (g.W.Sink.state c.args.writer.now) (g.W.Sink.state c.write_places.new.writer) fault.written))
    same c.write_places.ensures.err
