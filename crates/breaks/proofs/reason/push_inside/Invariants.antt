use Rattle.std.proofs.Common.{◌≡◌, ◌++◌, drop, map}
use Rattle.breaks.specs.Bases.{class_of}
use Rattle.breaks.specs.Reasons.{reasons_inside}
use Rattle.breaks.specs.Seen.{base_in, character_in}
use Rattle.breaks.proofs.reason.push_inside.Given as goal

abbrev pub invariant-loop-k : goal.invariant-loop-k
invariant-loop-k l =
    let inside = reasons_inside l.start (class_of (base_in l.base)) l.behind_spaces in
    l.list.items ++ inside (character_in l.before) (map character_in (drop l.k l.base.attached.now))
    ≡ l.fn.list.items ++ inside (character_in l.base.first) (map character_in l.base.attached.now)
