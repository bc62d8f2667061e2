use Rattle.std.proofs.Common.{inl, inr, sym, ap, ◌∙◌, arith}
use Rattle.std.proofs.lemmas.Bool.{cases_eq}
use Rattle.lines.specs.Clusters.{is_split_point}
use Rattle.lines.proofs.clusters.window_start.Goals as goal

pub loop-start-preserved : goal.loop-start-preserved
loop-start-preserved c = record {
  most = omega (arith, c.loop-start.invariant.most);
  nearest = λ i from to.
      elim (cases_eq i c.loop-start.start) [
        | inl e ↦ ap (is_split_point c.args.text.now) e ∙ sym c.is_split_point.ensures ∙ c.if-is_split_point.false
        | inr ne ↦ c.loop-start.invariant.nearest i (omega (arith, from, ne)) to
      ];
}
