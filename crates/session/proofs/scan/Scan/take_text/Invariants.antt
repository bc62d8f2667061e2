use Rattle.std.proofs.Common.{ℕ, List, ◌++◌}
use Rattle.lines.specs.Engine.{rules_of}
use Rattle.lines.specs.Layouts.{cut_by}
use Rattle.session.specs.Scans.{HasScanned}
use Rattle.session.proofs.scan.Scan.take_text.Given as goal

-- the scan has read the characters so far
abbrev pub invariant-loop-c : goal.invariant-loop-c
invariant-loop-c l = (text : List ℕ) → HasScanned (cut_by (rules_of l.engine)) text l.fn.self → HasScanned (cut_by (rules_of l.engine)) (text ++ l.yielded) l.self
