use Rattle.std.proofs.Common.{◌≡◌, take}
use Rattle.std.specs.List.{list_all}
use Rattle.breaks.proofs.mark.are_accepted.Given as goal

abbrev pub invariant-loop-at : goal.invariant-loop-at
invariant-loop-at g l = l.accepted ≡ list_all g.W.Walk.accepts (take l.at (g.C.Characters.all l.characters))
