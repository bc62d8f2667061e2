use Rattle.std.proofs.Common.{◌≡◌, ◌*◌, ◌≤◌, map, sum, take}
use Rattle.lines.specs.CharInfos.{columns_of}
use Rattle.lines.proofs.column_cache.ColumnCache.sum_of_each.Given as goal

abbrev pub invariant-loop-c : goal.invariant-loop-c
invariant-loop-c l = record {
  total : l.sum ≡ sum (map columns_of (take l.c-index l.text));
  most : l.sum ≤ 255 * l.c-index;
}
