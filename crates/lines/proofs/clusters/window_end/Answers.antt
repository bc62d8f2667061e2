use Rattle.std.proofs.Common.{inl, inr, sym, ap, ◌∙◌, arith}
use Rattle.std.proofs.lemmas.Bool.{cases_eq}
use Rattle.lines.specs.Clusters.{is_split_point}
use Rattle.lines.proofs.clusters.window_end.Goals as goal

pub loop-end-preserved : goal.loop-end-preserved
loop-end-preserved c = record {
  past = omega (arith, c.loop-end.invariant.past);
  most = omega (arith, c.loop-end-test.true);
  nearest = λ i from to.
      elim (cases_eq i c.loop-end.end) [
        | inl e ↦ ap (is_split_point c.args.text.now) e ∙ sym c.is_split_point.ensures ∙ c.if-is_split_point.false
        | inr ne ↦ c.loop-end.invariant.nearest i from (omega (arith, to, ne))
      ];
}
