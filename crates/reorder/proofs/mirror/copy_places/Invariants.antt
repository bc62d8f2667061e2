use Rattle.std.proofs.Common.{◌≡◌, get_or, map, take}
use Rattle.reorder.proofs.InverseLemmas.{Placed}
use Rattle.reorder.proofs.mirror.copy_places.Given as goal

abbrev pub invariant-loop-at : goal.invariant-loop-at
invariant-loop-at l = record {
  placed : Placed l.vtol l.ltov l.at;
  copied : take l.at l.chars ≡ map (λ i. get_or l.line i 0) (take l.at l.vtol);
}
