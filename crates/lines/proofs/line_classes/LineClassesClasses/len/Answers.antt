use Rattle.std.proofs.Common.{if◌then◌else◌, Bool, length, map, ap, arith}
use Rattle.ucd.specs.Classes.{class_in}
use Rattle.reorder.specs.Clusters.{cluster_classes}
use Rattle.reorder.proofs.ClusterLemmas.{length-cluster_classes}
use Rattle.lines.proofs.line_classes.LineClassesClasses.len.Goals as goal

pub returns-then-self : goal.returns-then-self
returns-then-self c =
    let line = c.args.self.now in
    let clusters = cluster_classes line.ends.now line.levels.now in
    let is = ap (λ (by : Bool). length (if by then clusters else map class_in line.properties.now)) c.if-self.true in
    omega (arith, is, length-cluster_classes line.ends.now line.levels.now)
