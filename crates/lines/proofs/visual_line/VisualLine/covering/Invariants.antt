use Rattle.std.proofs.Common.{◌≡◌, ◌≤◌, ◌*◌}
use Rattle.lines.specs.Columns.{columns_left}
use Rattle.lines.proofs.ColumnLemmas.{IsLeft}
use Rattle.lines.proofs.visual_line.VisualLine.covering.Given as goal

abbrev pub invariant-loop-k : goal.invariant-loop-k
invariant-loop-k l = record {
  left : l.columns ≡ columns_left l.self l.k;
  few : l.columns ≤ 4294967295 * l.k;
  passed : IsLeft l.self l.column l.k;
}
