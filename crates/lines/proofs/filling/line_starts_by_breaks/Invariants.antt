use Rattle.std.proofs.Common.{◌≡◌, ◌≤◌, ◌-◌, ◌++◌, List, drop, length}
use Rattle.lines.specs.Bare.{AreAlike}
use Rattle.lines.specs.Filling.{line_starts_of, starts}
use Rattle.lines.specs.Kept.{AreStarts}
use Rattle.lines.specs.declared.char_info.CharInfo.{CharInfo}
use Rattle.lines.proofs.filling.line_starts_by_breaks.Given as goal

-- the line starts so far, followed by those of the remaining characters, are the line starts of the paragraph
abbrev pub invariant-loop-start : goal.invariant-loop-start
invariant-loop-start l = record {
  whole : (known : List CharInfo) → AreAlike l.infos known
      → line_starts_of l.nobreak l.width known ≡ l.starts.items ++ starts l.nobreak l.width l.start 0 (drop l.start known);
  within : l.start ≤ length l.infos;
  rising : AreStarts l.start l.starts.items;
}

abbrev pub decreases-loop-start : goal.decreases-loop-start
decreases-loop-start l = length l.infos - l.start
