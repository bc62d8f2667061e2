use Rattle.std.proofs.Common.{◌≡◌, ◌∙◌, ◌+◌, ◌-◌, ◌≤◌, Some, get_or, ap, sym, arith}
use Rattle.std.proofs.lemmas.List.{get_or_default, length-set, take_all}
use Rattle.std.proofs.lemmas.Bool.{cond-false, cond-true}
use Rattle.lines.specs.Tabs.{is_tab, to_stop}
use Rattle.lines.specs.Widths.{width_from, widths_of}
use Rattle.lines.proofs.MeasureLemmas.{next_written, width_measured, width_most}
use Rattle.lines.proofs.WidthLemmas.{length-widths_of, sum_next}
use Rattle.lines.proofs.widths.put_widths.Goals as goal
use Rattle.lines.proofs.widths.put_widths.Goals.{then-is_tab, else-is_tab}

pub loop-k-preserved : goal.loop-k-preserved
loop-k-preserved c =
    let n = c.args.tab_width in
    let text = c.args.text.now in
    let advances = c.args.advances.now in
    let k = c.loop-k.k in
    let w = c.loop-k.invariant in
    let column = c.loop-k.column in
    let size = get_or advances k 0 in
    let ch = get_or text k 0 in
    let read : c.index-text-k.result ≡ ch = c.index-text-k.is ∙ get_or_default text k c.index-text-k.result 0 c.loop-k-test.true in
    let end : c.if-is_tab.end ≡ column + width_from n column ch size = elim c.if-is_tab.branch [
      | then-is_tab w ↦ w.end-is ∙ w.next_stop-end.ensures.stop
          ∙ ap (λ m. column + m) (sym (cond-true (is_tab n ch) (to_stop size column) size (ap (is_tab n) (sym read) ∙ sym c.is_tab.ensures ∙ w.if-is_tab.true)))
      | else-is_tab w ↦ w.end-is
          ∙ ap (λ m. column + m) (sym (cond-false (is_tab n ch) (to_stop size column) size (ap (is_tab n) (sym read) ∙ sym c.is_tab.ensures ∙ w.if-is_tab.false)))
    ] in
    let most : c.if-is_tab.end ≤ column + 4294967295 = omega (arith, end, width_most n column ch size, c.type_inv.advances k) in
    let width : get_or (widths_of n (Some advances) text) k 0 ≡ c.if-is_tab.end - column =
    width_measured n k advances text c.loop-k-test.true ∙ ap (λ m. width_from n m ch size) (sym w.column) ∙ omega (arith, end) in
    record {
      within = omega (arith, c.loop-k-test.true);
      len = length-set c.loop-k.widths k (c.if-is_tab.end - column) ∙ w.len;
      column = omega (arith, sum_next n k (Some advances) text c.loop-k-test.true, width, w.column, end);
      few = omega (arith, w.few, most);
      written = next_written (widths_of n (Some advances) text) c.loop-k.widths k (c.if-is_tab.end - column) (omega (arith, c.loop-k-test.true, w.len))
          (omega (arith, c.loop-k-test.true, length-widths_of n (Some advances) text)) w.written (sym width);
    }

pub returns : goal.returns
returns c =
    let are = widths_of c.args.tab_width (Some c.args.advances.now) c.args.text.now in
    let w = c.loop-k.invariant in
    sym (take_all c.loop-k.k c.loop-k.widths (omega (arith, w.len, c.loop-k-test.false))) ∙ w.written
    ∙ take_all c.loop-k.k are (omega (arith, length-widths_of c.args.tab_width (Some c.args.advances.now) c.args.text.now, c.loop-k-test.false))
