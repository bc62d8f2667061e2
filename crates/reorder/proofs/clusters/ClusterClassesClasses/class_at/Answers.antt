use Rattle.std.proofs.Common.{◌<◌, ◌∙◌, length, ap, sym, arith}
use Rattle.std.specs.Prelude.{if◌then◌else◌}
use Rattle.ucd.specs.declared.bidi_class.BidiClass.TheVariants.{NSM, ON}
use Rattle.reorder.proofs.ClusterLemmas.{class_is, length-cluster_classes}
use Rattle.reorder.proofs.clusters.ClusterClassesClasses.class_at.Goals as goal

pub is_joined-requires : goal.is_joined-requires
is_joined-requires c =
    omega (arith, length-cluster_classes c.args.self.now.ends.now c.args.self.now.levels.now, c.requires)

pub returns-then-is_joined : goal.returns-then-is_joined
returns-then-is_joined c =
    let s = c.args.self.now in
    let within : c.args.k < length s.levels.now = omega (arith, length-cluster_classes s.ends.now s.levels.now, c.requires) in
    ap (λ joined. if joined then NSM else ON) (sym (sym c.is_joined.ensures ∙ c.if-is_joined.true))
    ∙ sym (class_is s.ends.now s.levels.now c.args.k within)

pub returns-else-is_joined : goal.returns-else-is_joined
returns-else-is_joined c =
    let s = c.args.self.now in
    let within : c.args.k < length s.levels.now = omega (arith, length-cluster_classes s.ends.now s.levels.now, c.requires) in
    ap (λ joined. if joined then NSM else ON) (sym (sym c.is_joined.ensures ∙ c.if-is_joined.false))
    ∙ sym (class_is s.ends.now s.levels.now c.args.k within)
