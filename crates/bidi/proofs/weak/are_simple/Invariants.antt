use Rattle.std.proofs.Common.{◌≡◌, take}
use Rattle.std.specs.List.{list_all}
use Rattle.bidi.specs.WeakTable.{is_simple}
use Rattle.bidi.proofs.weak.are_simple.Given as goal

abbrev pub invariant-loop-class : goal.invariant-loop-class
invariant-loop-class l = l.all ≡ list_all is_simple (take l.class-index l.types)
