use Rattle.std.proofs.Common.{◌+◌, ◌-◌, ◌≤◌, encode_utf8_all}
use Rattle.std.specs.List.{slice_range}
use Rattle.lines.specs.Writing.{PassedOn}
use Rattle.session.specs.Kept.{text_of}
use Rattle.session.proofs.reading.write_text.Given as goal

-- the parts so far are written
abbrev pub invariant-loop-at : goal.invariant-loop-at
invariant-loop-at g l =
    let kept = g.S.ParagraphStore.items l.store in
    let state = g.W.Sink.state in
    record {
      begun : l.pos ≤ l.at;
      within : l.at ≤ l.pos + l.count;
      passed : PassedOn (encode_utf8_all (slice_range (text_of kept) l.pos l.at)) l.before (state l.fn.writer) (state l.writer) l.written;
      counted : l.written ≤ (state l.writer).passed;
    }

abbrev pub decreases-loop-at : goal.decreases-loop-at
decreases-loop-at g l = l.pos + l.count - l.at
