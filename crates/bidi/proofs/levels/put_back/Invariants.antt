use Rattle.std.proofs.Common.{◌≡◌, ◌++◌, drop}
use Rattle.bidi.specs.Levels.{put_back}
use Rattle.bidi.proofs.levels.put_back.Given as goal

abbrev pub invariant-loop-class : goal.invariant-loop-class
invariant-loop-class l = l.levels.items ++ put_back l.level (drop l.class-index l.classes) l.rest ≡ put_back l.base l.classes l.resolved
