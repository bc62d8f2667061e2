use Rattle.std.proofs.Common.{◌-◌, length}
use Rattle.lines.specs.Engine.{rules_of, SameRules}
use Rattle.terminal.specs.Searches.{HasSearched}
use Rattle.terminal.proofs.direction.known_level.Given as goal

abbrev pub invariant-loop-scanned : goal.invariant-loop-scanned
invariant-loop-scanned l = record {
  rules : SameRules l.fn.engine l.engine;
  searched : HasSearched (rules_of l.fn.engine) l.searched l.text;
}

abbrev pub decreases-loop-scanned : goal.decreases-loop-scanned
decreases-loop-scanned l = length l.text - l.searched.start
