use Rattle.std.proofs.Common.{length, get_or, ap, ◌∙◌, arith}
use Rattle.std.specs.Prelude.{option_map}
use Rattle.lines.specs.Columns.{width_at}
use Rattle.lines.specs.Visual.{Visual}
use Rattle.lines.proofs.MeasureLemmas.{known_width}
use Rattle.lines.proofs.ColumnLemmas.{left_more, left_to}
use Rattle.lines.proofs.visual_line.VisualLine.columns_left.Goals as goal

pub loop-k-preserved : goal.loop-k-preserved
loop-k-preserved c =
    let vtol = ap (λ (v : Visual). v.vtol) c.self.view_is in
    let value = known_width (option_map (λ list. list.now) c.known-known.result) (get_or c.self.inside.vtol.now c.loop-k.k 0) c.self.view_is c.known-known.ensures.widths c.columns_at-columns.ensures.value ∙ ap (λ (v : Visual). width_at c.args.self.now (get_or v.vtol c.loop-k.k 0)) c.self.view_is in
    let next = left_more c.args.self.now c.loop-k.k (omega (arith, c.loop-k-test.true, c.min-k-end.ensures, ap length vtol)) in
    record {
      left = omega (arith, c.loop-k.invariant.left, value, next);
      few = omega (arith, c.loop-k.invariant.few, c.columns_at-columns.ensures.few);
    }

pub returns-clause-value : goal.returns-clause-value
returns-clause-value c =
    let vtol = ap (λ (v : Visual). v.vtol) c.self.view_is in
    c.loop-k.invariant.left ∙ left_to c.args.self.now c.args.place c.loop-k.k (omega (arith, c.loop-k-test.false, c.loop-k.auto.k-end, c.min-k-end.ensures, ap length vtol))
