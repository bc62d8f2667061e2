use Rattle.std.specs.List.{AllWithin}
use Rattle.lines.specs.SameKind.{AreOfOneKind}
use Rattle.lines.proofs.same_kind.are_of_kind.Given as goal

abbrev pub invariant-loop-k : goal.invariant-loop-k
invariant-loop-k l = AllWithin (AreOfOneKind l.tables l.c) l.text 0 l.k
