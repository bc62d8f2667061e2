use Rattle.std.proofs.Common.{◌≤◌, ◌-◌, length, take}
use Rattle.std.specs.List.{concat}
use Rattle.lines.specs.Buffers.{CanHold}
use Rattle.lines.specs.Writing.{PassedOn}
use Rattle.lines.proofs.WrittenLemmas.{pieces_of}
use Rattle.lines.proofs.printing.writing.write_each.Given as goal

abbrev pub invariant-loop-k : goal.invariant-loop-k
invariant-loop-k g l =
    let state = g.W.Sink.state in
    record {
      within : l.k ≤ length l.extents.starts;
      passed : PassedOn (concat (take l.k (pieces_of l.form.width l.form.print.now l.text l.levels l.extents))) 0 (state l.fn.writer) (state l.writer) l.written;
      visual : CanHold (length l.text.characters.now) l.visual;
      counted : l.written ≤ (state l.writer).passed;
    }

abbrev pub decreases-loop-k : goal.decreases-loop-k
decreases-loop-k g l = length l.starts - l.k
