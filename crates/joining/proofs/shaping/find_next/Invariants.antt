use Rattle.std.proofs.Common.{◌≡◌, ◌<◌, ℕ, true, None, drop, cond}
use Rattle.joining.specs.Joiners.{is_transparent, joiner_at}
use Rattle.joining.specs.Joins.{next_joined}
use Rattle.joining.specs.declared.joiner.Agreement.TheVariants.{All}
use Rattle.joining.proofs.JoinLemmas.{joined_in}
use Rattle.joining.proofs.shaping.find_next.Given as goal

-- the characters before k are transparent, and the one that joins is the first that fits, from k on
abbrev pub invariant-loop-k : goal.invariant-loop-k
invariant-loop-k g l = record {
  between : (m : ℕ) → l.at < m → m < l.k → is_transparent (joiner_at (g.J.Joiners.all l.text) m) ≡ true;
  joined : cond l.may_join (joined_in All l.level l.k (drop l.k (g.J.Joiners.all l.text))) None ≡ next_joined All (g.J.Joiners.all l.text) l.at;
}
