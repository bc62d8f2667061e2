use Rattle.std.proofs.Common.{◌≡◌, ◌+◌, ◌-◌, ◌*◌, ◌≤◌, drop, length, map, sum}
use Rattle.lines.specs.CharInfos.{columns_of}
use Rattle.lines.proofs.column_cache.ColumnCache.sum.Given as goal

-- the sum so far, plus the columns of the rest, is the sum of all columns
abbrev pub invariant-loop-rest : goal.invariant-loop-rest
invariant-loop-rest l = record {
  place : l.rest ≡ drop (length l.text - length l.rest) l.text;
  within : length l.rest ≤ length l.text;
  total : l.sum + sum (map columns_of l.rest) ≡ sum (map columns_of l.text);
  most : l.sum + 255 * length l.rest ≤ 255 * length l.text;
}

abbrev pub decreases-loop-rest : goal.decreases-loop-rest
decreases-loop-rest l = length l.rest
