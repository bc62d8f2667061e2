use Rattle.std.proofs.Common.{◌≡◌, ◌≤◌, ◌++◌, List, Some, length, drop, take}
use Rattle.std.specs.List.{flat_map, slice_get}
use Rattle.lines.specs.Bytes.{line_bytes}
use Rattle.lines.specs.Layouts.{Layout}
use Rattle.lines.specs.Visual.{Visual}
use Rattle.lines.specs.Writing.{PassedOn}
use Rattle.session.specs.Kept.{lines_in}
use Rattle.session.proofs.printing.write_lines.Given as goal

-- the lines so far are written, and the rest of the range starts in the current paragraph
abbrev pub invariant-loop-index : goal.invariant-loop-index
invariant-loop-index g l =
    let state = g.W.Sink.state in
    let kept = g.S.ParagraphStore.items l.store in
    record {
      front : List Visual;
      parts : front ++ take l.left (drop l.from (lines_in (drop l.index kept))) ≡ take l.count (drop l.first (lines_in kept));
      here : (item : Layout) → Some item ≡ slice_get kept l.index → l.from ≤ length item.lines;
      passed : PassedOn (flat_map (line_bytes l.width l.print) front) l.before (state l.fn.writer) (state l.writer) l.written;
      counted : l.written ≤ (state l.writer).passed;
    }
