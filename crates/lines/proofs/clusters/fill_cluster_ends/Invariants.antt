use Rattle.std.proofs.Common.{◌≡◌, ◌++◌}
use Rattle.std.specs.List.{flat_map}
use Rattle.unicode_segmentation.specs.Iter.{graphemes_left}
use Rattle.lines.specs.Clusters.{cluster_ends, ends_of}
use Rattle.lines.proofs.clusters.fill_cluster_ends.Given as goal

-- the ends so far, followed by those of the remaining clusters, are the cluster ends of the text
abbrev pub invariant-loop-cluster : goal.invariant-loop-cluster
invariant-loop-cluster l = l.ends.items ++ flat_map ends_of (graphemes_left l.cluster-iterator) ≡ cluster_ends l.text
