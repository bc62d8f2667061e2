use Rattle.lines.proofs.ReadingLemmas.{all_clusters_adjoin}
use Rattle.lines.proofs.laws.clusters_adjoin.Goals as goal

pub returns : goal.returns
returns c = all_clusters_adjoin
