use Rattle.bidi.proofs.IsolateLemmas.{Reached}
use Rattle.bidi.proofs.base.first_strong_level.Given as goal

abbrev pub invariant-loop-k : goal.invariant-loop-k
invariant-loop-k g l = Reached (g.C.Classes.all l.classes) l.k l.depth
