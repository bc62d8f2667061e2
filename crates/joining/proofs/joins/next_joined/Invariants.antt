use Rattle.std.proofs.Common.{◌≡◌, drop}
use Rattle.joining.specs.Joins.{next_joined}
use Rattle.joining.proofs.JoinLemmas.{joined_in}
use Rattle.joining.proofs.joins.next_joined.Given as goal

-- the character that joins is the first that fits, from k on
abbrev pub invariant-loop-k : goal.invariant-loop-k
invariant-loop-k g l =
    joined_in l.by l.level l.k (drop l.k (g.J.Joiners.all l.text)) ≡ next_joined l.by (g.J.Joiners.all l.text) l.at
