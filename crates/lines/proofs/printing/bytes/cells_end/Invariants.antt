use Rattle.std.proofs.Common.{◌≡◌, ℕ, ◌-◌, ◌<◌, ◌≤◌, false, get_or}
use Rattle.lines.specs.Tabs.{is_tab}
use Rattle.lines.proofs.printing.bytes.cells_end.Given as goal

abbrev pub invariant-loop-end : goal.invariant-loop-end
invariant-loop-end l = record {
  after : l.start < l.end;
  within : l.end ≤ l.len;
  others : (k : ℕ) → l.start ≤ k → k < l.end → is_tab l.line.tab_width (get_or l.line.text (get_or l.line.vtol k 0) 0) ≡ false;
}

abbrev pub decreases-loop-end : goal.decreases-loop-end
decreases-loop-end l = l.len - l.end
