use Rattle.std.proofs.Common.{◌≡◌, take}
use Rattle.std.specs.List.{list_all}
use Rattle.lines.specs.Whole.{may_go_on}
use Rattle.lines.proofs.whole.end_no_line.Given as goal

abbrev pub invariant-loop-at : goal.invariant-loop-at
invariant-loop-at l = l.none ≡ list_all may_go_on (take l.at l.properties)
