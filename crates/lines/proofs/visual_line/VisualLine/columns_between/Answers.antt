use Rattle.std.proofs.Common.{◌≡◌, ◌∙◌, ◌+◌, suc, ◌<◌, length, sum, ap, arith}
use Rattle.std.specs.Prelude.{option_map}
use Rattle.lines.specs.Columns.{columns_between, widths}
use Rattle.lines.specs.Visual.{Visual}
use Rattle.lines.proofs.MeasureLemmas.{known_width}
use Rattle.lines.proofs.AdjoinLemmas.{between_more}
use Rattle.lines.proofs.WidthLemmas.{length-widths, range_clipped}
use Rattle.lines.proofs.visual_line.VisualLine.columns_between.Goals as goal

pub loop-k-preserved : goal.loop-k-preserved
loop-k-preserved c =
    let line = c.args.self.now in
    let k = c.loop-k.k in
    let value = known_width (option_map (λ list. list.now) c.known-known.result) k c.self.view_is c.known-known.ensures.widths c.width_at-columns.ensures.value in
    let text = ap (λ (v : Visual). length v.text) c.self.view_is in
    let within : k < length (widths line) = omega (arith, c.loop-k-test.true, c.min-past.ensures, text, length-widths line) in
    let next : suc k ≡ k + 1 = omega arith in
    record {
      sum = omega (arith, c.loop-k.invariant.sum, value, between_more (widths line) c.min-first.result k c.loop-k.auto.k within, ap (columns_between line c.min-first.result) next);
      few = omega (arith, c.loop-k.invariant.few, c.width_at-columns.ensures.few);
    }

pub returns-clause-value : goal.returns-clause-value
returns-clause-value c =
    let line = c.args.self.now in
    let text = ap (λ (v : Visual). length v.text) c.self.view_is in
    let size = length-widths line in
    let last : c.loop-k.k ≡ c.min-past.result = omega (arith, c.loop-k-test.false, c.loop-k.auto.k-end, c.min-first.ensures) in
    c.loop-k.invariant.sum ∙ ap (columns_between line c.min-first.result) last
    ∙ ap sum (range_clipped (widths line) c.args.start c.args.end c.min-first.result c.min-past.result c.min-first.ensures (omega (arith, c.min-past.ensures, text, size)))
