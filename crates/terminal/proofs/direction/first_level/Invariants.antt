use Rattle.std.proofs.Common.{◌≡◌, length}
use Rattle.bidi.specs.Cuts.{paragraphs}
use Rattle.lines.specs.Engine.{rules_of, SameRules}
use Rattle.lines.specs.Layouts.{cut_by}
use Rattle.terminal.specs.Directions.{first_level}
use Rattle.terminal.proofs.direction.first_level.Given as goal

abbrev pub invariant-loop-rest : goal.invariant-loop-rest
invariant-loop-rest l = record {
  rules : SameRules l.fn.engine l.engine;
  passed : first_level (rules_of l.fn.engine).tables (paragraphs (cut_by (rules_of l.fn.engine)) l.text)
      ≡ first_level (rules_of l.fn.engine).tables (paragraphs (cut_by (rules_of l.fn.engine)) l.rest);
}

abbrev pub decreases-loop-rest : goal.decreases-loop-rest
decreases-loop-rest l = length l.rest
