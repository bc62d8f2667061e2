use Rattle.std.proofs.Common.{◌≡◌, ◌≤◌, length, ◌==◌}
use Rattle.bidi.specs.Brackets.{canonical, greatest}
use Rattle.bidi.specs.Closers.{newest, pair_of}
use Rattle.bidi.proofs.brackets.matching.Given as goal

abbrev pub invariant-loop-held : goal.invariant-loop-held
invariant-loop-held l = (l.held ≤ length l.openers) × (greatest (λ m. canonical (pair_of l.openers m) == l.wanted) l.held ≡ newest l.openers l.fn.closer)

abbrev pub decreases-loop-held : goal.decreases-loop-held
decreases-loop-held l = l.held
