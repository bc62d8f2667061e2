use Rattle.std.proofs.Common.{length, ◌-◌, ◌≡◌, ℕ, ◌<◌, ◌≤◌}
use Rattle.lines.specs.Selections.{columns_on, selected_in, IsReached}
use Rattle.lines.specs.Spans.{is_selected}
use Rattle.lines.proofs.spans.pass.Given as goal

abbrev pub invariant-loop-place : goal.invariant-loop-place
invariant-loop-place l = record {
  at : IsReached (selected_in l.selection) (record { place = l.place; column = l.column });
  forward : l.fn.at.place ≤ l.place;
  passed : (place : ℕ) → l.fn.at.place ≤ place → place < l.place → 0 < columns_on (selected_in l.selection) place
      → is_selected (selected_in l.selection) l.selection.start l.selection.end place ≡ l.inside;
}

abbrev pub decreases-loop-place : goal.decreases-loop-place
decreases-loop-place l = length l.vtol - l.place
