use Rattle.std.proofs.Common.{◌≡◌, ◌∙◌, ◌-◌, false, true, None, get_or, sum, take, ap, sym}
use Rattle.std.proofs.lemmas.List.{get_or_default}
use Rattle.lines.specs.CharInfos.{columns_of}
use Rattle.lines.specs.Tabs.{is_tab, to_stop}
use Rattle.lines.specs.Widths.{widths_of}
use Rattle.lines.proofs.WidthLemmas.{tab_size, tab_wide, width_plain, width_tab}
use Rattle.lines.proofs.widths.columns_at.Goals as goal

pub returns-then-not-is_tab-clause-value : goal.returns-then-not-is_tab-clause-value
returns-then-not-is_tab-clause-value c =
    let text = c.args.text.now in
    let k = c.args.k in
    let first = c.index-text-k.is ∙ get_or_default text k c.index-text-k.result 0 c.requires in
    let plain : is_tab c.args.tab_width (get_or text k 0) ≡ false = ap (is_tab c.args.tab_width) (sym first) ∙ sym c.is_tab.ensures ∙ c.if-not-is_tab.true in
    c.columns.ensures.value ∙ ap columns_of first ∙ sym (width_plain c.args.tab_width k text c.requires plain)

pub returns-clause-value : goal.returns-clause-value
returns-clause-value c =
    let text = c.args.text.now in
    let k = c.args.k in
    let n = c.args.tab_width in
    let first = c.index-text-k.is ∙ get_or_default text k c.index-text-k.result 0 c.requires in
    let tab : is_tab n (get_or text k 0) ≡ true = ap (is_tab n) (sym first) ∙ sym c.is_tab.ensures ∙ c.if-not-is_tab.false in
    ap (λ m. n - m) (c.since_stop.ensures n (tab_wide n (get_or text k 0) tab))
    ∙ sym (width_tab n k None text c.requires tab ∙ ap (λ size. to_stop size (sum (take k (widths_of n None text)))) (tab_size n k text c.requires tab))
