use Rattle.reorder.proofs.ClusterLemmas.{singles_stay}
use Rattle.reorder.proofs.clusters.single_characters_stay.Goals as goal

pub returns : goal.returns
returns c = singles_stay
