use Rattle.std.proofs.Common.{sym}
use Rattle.reorder.proofs.ClusterLemmas.{length-cluster_classes}
use Rattle.reorder.proofs.clusters.ClusterClassesClasses.len.Goals as goal

pub returns : goal.returns
returns c = sym (length-cluster_classes c.args.self.now.ends.now c.args.self.now.levels.now)
