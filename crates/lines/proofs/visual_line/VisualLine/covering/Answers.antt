use Rattle.std.proofs.Common.{◌<◌, length, get_or, ap, ◌∙◌, arith}
use Rattle.std.specs.Prelude.{option_map}
use Rattle.lines.specs.Columns.{width_at}
use Rattle.lines.specs.Visual.{Visual}
use Rattle.lines.proofs.MeasureLemmas.{known_width}
use Rattle.lines.proofs.ColumnLemmas.{covers, covers_none, covers_not, left_more}
use Rattle.lines.proofs.visual_line.VisualLine.covering.Goals as goal

pub returns-then-column-columns : goal.returns-then-column-columns
returns-then-column-columns c =
    let vtol = ap (λ (v : Visual). v.vtol) c.self.view_is in
    let value = known_width (option_map (λ list. list.now) c.known-known.result) (get_or c.self.inside.vtol.now c.loop-k.k 0) c.self.view_is c.known-known.ensures.widths c.columns_at-columns.ensures.value ∙ ap (λ (v : Visual). width_at c.args.self.now (get_or v.vtol c.loop-k.k 0)) c.self.view_is in
    let within : c.loop-k.k < length c.args.self.now.vtol = omega (arith, c.loop-k-test.true, ap length vtol) in
    let next = left_more c.args.self.now c.loop-k.k within in
    covers c.args.self.now c.args.column c.loop-k.k within c.loop-k.invariant.passed (omega (arith, c.if-column-columns.true, c.loop-k.invariant.left, value, next))

pub loop-k-preserved : goal.loop-k-preserved
loop-k-preserved c =
    let vtol = ap (λ (v : Visual). v.vtol) c.self.view_is in
    let value = known_width (option_map (λ list. list.now) c.known-known.result) (get_or c.self.inside.vtol.now c.loop-k.k 0) c.self.view_is c.known-known.ensures.widths c.columns_at-columns.ensures.value ∙ ap (λ (v : Visual). width_at c.args.self.now (get_or v.vtol c.loop-k.k 0)) c.self.view_is in
    let within : c.loop-k.k < length c.args.self.now.vtol = omega (arith, c.loop-k-test.true, ap length vtol) in
    let next = left_more c.args.self.now c.loop-k.k within in
    record {
      left = omega (arith, c.loop-k.invariant.left, value, next);
      few = omega (arith, c.loop-k.invariant.few, c.columns_at-columns.ensures.few);
      passed = covers_not c.args.self.now c.args.column c.loop-k.k within c.loop-k.invariant.passed (omega (arith, c.if-column-columns.false, c.loop-k.invariant.left, value, next));
    }

pub returns : goal.returns
returns c =
    let vtol = ap (λ (v : Visual). v.vtol) c.self.view_is in
    covers_none c.args.self.now c.args.column c.loop-k.k (omega (arith, c.loop-k-test.false, ap length vtol)) c.loop-k.invariant.passed
