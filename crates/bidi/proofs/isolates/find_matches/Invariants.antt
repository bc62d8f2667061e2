use Rattle.bidi.proofs.MatchLemmas.{Opens}
use Rattle.bidi.proofs.isolates.find_matches.Given as goal

abbrev pub invariant-loop-at : goal.invariant-loop-at
invariant-loop-at l = Opens l.classes l.at l.pending.items l.found.items
