use Rattle.std.proofs.Common.{ℕ, List, ◌++◌, length, replicate}
use Rattle.lines.specs.Engine.{rules_of}
use Rattle.lines.specs.Layouts.{cut_by}
use Rattle.session.specs.Scans.{HasSummed}
use Rattle.session.proofs.room.RoomScan.take_text.Given as goal

-- the scan has read the characters so far
abbrev pub invariant-loop-c : goal.invariant-loop-c
invariant-loop-c l = (text list : List ℕ) → HasSummed (cut_by (rules_of l.engine)) text list l.fn.self
    → HasSummed (cut_by (rules_of l.engine)) (text ++ l.yielded) (list ++ replicate {A = ℕ} (length l.yielded) 0) l.self
