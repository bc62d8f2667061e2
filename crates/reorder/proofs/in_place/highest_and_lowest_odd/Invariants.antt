use Rattle.reorder.proofs.LevelLemmas.{Reduced}
use Rattle.reorder.proofs.in_place.highest_and_lowest_odd.Given as goal

abbrev pub invariant-loop-level : goal.invariant-loop-level
invariant-loop-level l = Reduced l.levels l.level-index l.highest l.any l.lowest
