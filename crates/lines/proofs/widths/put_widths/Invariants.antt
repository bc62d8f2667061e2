use Rattle.std.proofs.Common.{◌≡◌, ◌*◌, ◌-◌, ◌≤◌, Some, length, sum, take}
use Rattle.lines.specs.Widths.{widths_of}
use Rattle.lines.proofs.widths.put_widths.Given as goal

-- the widths of the first k characters are written
abbrev pub invariant-loop-k : goal.invariant-loop-k
invariant-loop-k l = let are = widths_of l.tab_width (Some l.advances) l.text in record {
  within : l.k ≤ length l.text;
  len : length l.widths ≡ length l.text;
  column : l.column ≡ sum (take l.k are);
  few : l.column ≤ 4294967295 * l.k;
  written : take l.k l.widths ≡ take l.k are;
}

abbrev pub decreases-loop-k : goal.decreases-loop-k
decreases-loop-k l = length l.text - l.k
