use Rattle.std.proofs.Common.{◌≤◌, drop, take}
use Rattle.std.specs.List.{concat}
use Rattle.lines.specs.Layouts.{visuals}
use Rattle.lines.specs.Writing.{PassedOn}
use Rattle.session.proofs.PrintLemmas.{line_pieces}
use Rattle.session.proofs.printing.write_in_paragraph.Given as goal

-- the lines so far are written
abbrev pub invariant-loop-n : goal.invariant-loop-n
invariant-loop-n g l =
    let state = g.W.Sink.state in
    record {
      passed : PassedOn (concat (take l.n (line_pieces l.width l.print (take l.count (drop l.from (visuals l.laid)))))) l.before (state l.fn.writer) (state l.writer) l.written;
      counted : l.written ≤ (state l.writer).passed;
    }
