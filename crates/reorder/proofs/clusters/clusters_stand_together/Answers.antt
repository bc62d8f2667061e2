use Rattle.reorder.proofs.ClusterLemmas.{sequences}
use Rattle.reorder.proofs.clusters.clusters_stand_together.Goals as goal

pub returns : goal.returns
returns c = sequences
