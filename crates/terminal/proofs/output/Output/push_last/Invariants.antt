use Rattle.std.proofs.Common.{◌≡◌, [], length}
use Rattle.lines.specs.Engine.{rules_of, SameRules}
use Rattle.sequences.specs.StyledTexts.{styled_of}
use Rattle.terminal.proofs.PushLemmas.{HasAddedLast}
use Rattle.terminal.proofs.output.Output.push_last.Given as goal

abbrev pub invariant-loop-rest : goal.invariant-loop-rest
invariant-loop-rest l = record {
  rules : SameRules l.fn.engine l.engine;
  empty : styled_of l.self.scanner.text ≡ [];
  added : HasAddedLast (rules_of l.fn.engine) l.form l.text l.rest l.fn.self l.self l.last;
}

abbrev pub decreases-loop-rest : goal.decreases-loop-rest
decreases-loop-rest l = length l.rest
