use Rattle.std.proofs.Common.{◌≡◌, take}
use Rattle.std.specs.List.{list_any}
use Rattle.ucd.specs.Classes.{is_nonspacing_mark}
use Rattle.reorder.proofs.in_place.has_nonspacing_mark.Given as goal

abbrev pub invariant-loop-k : goal.invariant-loop-k
invariant-loop-k g l = l.found ≡ list_any is_nonspacing_mark (take l.k (g.C.Classes.all l.line))
