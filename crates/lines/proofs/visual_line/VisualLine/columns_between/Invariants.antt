use Rattle.std.proofs.Common.{◌≡◌, ◌≤◌, ◌*◌}
use Rattle.lines.specs.Columns.{columns_between}
use Rattle.lines.proofs.visual_line.VisualLine.columns_between.Given as goal

abbrev pub invariant-loop-k : goal.invariant-loop-k
invariant-loop-k l = record {
  sum : l.columns ≡ columns_between l.self l.first l.k;
  few : l.columns ≤ 4294967295 * l.k;
}
