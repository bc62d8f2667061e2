use Rattle.std.proofs.Common.{◌≡◌, ◌≤◌, ◌-◌, ◌+◌, [], drop, length}
use Rattle.lines.specs.Engine.{rules_of, SameRules}
use Rattle.lines.specs.Layouts.{cut_by}
use Rattle.sequences.specs.StyledTexts.{styled_of}
use Rattle.terminal.specs.Ends.{AreNoEnds}
use Rattle.terminal.specs.Passed.{HasPassed}
use Rattle.terminal.proofs.PushLemmas.{HasAdded, IsHolding}
use Rattle.terminal.proofs.output.Output.push_ended.Given as goal

abbrev pub invariant-loop-k : goal.invariant-loop-k
invariant-loop-k l = record {
  rules : SameRules l.fn.engine l.engine;
  within : l.start + l.from ≤ length l.text;
  none : AreNoEnds (cut_by (rules_of l.fn.engine)) l.from (drop l.start l.text);
  passed : HasPassed l.passed (drop (l.from + 1) (drop l.start l.text));
  empty : styled_of l.self.scanner.text ≡ [];
  holding : IsHolding l.form.strict l.text l.start;
  added : HasAdded (rules_of l.fn.engine) l.form l.text l.fn.self l.self l.start;
}

abbrev pub decreases-loop-k : goal.decreases-loop-k
decreases-loop-k l = length l.text - l.start
