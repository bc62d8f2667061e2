use Rattle.std.proofs.Common.{◌++◌}
use Rattle.lines.specs.Engine.{rules_of}
use Rattle.lines.specs.Layouts.{cut_by}
use Rattle.text_run.proofs.LongLemmas.{HasTaken}
use Rattle.text_run.proofs.paragraphs.look_ahead.Given as goal

-- the characters so far have no paragraph boundary and are within the limit
abbrev pub invariant-loop-c : goal.invariant-loop-c
invariant-loop-c l = HasTaken (cut_by (rules_of l.engine)) (l.text ++ l.yielded) l.last l.len
