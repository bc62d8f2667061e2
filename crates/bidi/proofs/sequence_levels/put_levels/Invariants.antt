use Rattle.std.proofs.Common.{◌≡◌, drop}
use Rattle.bidi.specs.Levels.{put}
use Rattle.bidi.proofs.sequence_levels.put_levels.Given as goal

abbrev pub invariant-loop-at : goal.invariant-loop-at
invariant-loop-at l = put l.levels (drop l.at l.places) (drop l.at l.values) ≡ put l.fn.levels l.places l.values
