use Rattle.std.proofs.Common.{ℕ, List, ◌++◌, take}
use Rattle.lines.specs.Engine.{rules_of}
use Rattle.lines.specs.Layouts.{cut_by}
use Rattle.session.specs.Scans.{HasSummed}
use Rattle.session.proofs.room.RoomScan.take_all.Given as goal

-- the scan has read the characters so far
abbrev pub invariant-loop-k : goal.invariant-loop-k
invariant-loop-k l = (text list : List ℕ) → HasSummed (cut_by (rules_of l.engine)) text list l.fn.self
    → HasSummed (cut_by (rules_of l.engine)) (text ++ take l.k l.part) (list ++ take l.k l.advances) l.self
