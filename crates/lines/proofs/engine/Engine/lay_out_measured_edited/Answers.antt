use Rattle.std.proofs.Common.{◌≡◌, ◌∙◌, ◌^◌, ◌<◌, List, Some, ℕ, true, length, sum, take, ap, subst, sym}
use Rattle.lines.specs.Engine.{rules_of}
use Rattle.lines.specs.Layouts.{AreWithin, Filled, Rules, lines_of, with_advances}
use Rattle.lines.specs.Measures.{FollowFrom}
use Rattle.lines.specs.Tabs.{tab_width_in}
use Rattle.lines.proofs.LayoutLemmas.{filled_as, same_layout}
use Rattle.lines.proofs.MeasureLemmas.{advances_stay, sizes_after}
use Rattle.lines.proofs.VisualLemmas.{lines_follow}
use Rattle.lines.proofs.engine.Engine.lay_out_measured_edited.Goals as goal

pub put_all_widths-requires-clause-lines : goal.put_all_widths-requires-clause-lines
put_all_widths-requires-clause-lines c =
    subst (λ (f : Filled). FollowFrom 0 f.lines) (sym (c.of-lines.ensures ∙ filled_as _ _ _ _ c.in_ok-base.ensures.layout.lines c.in_ok-base.ensures.layout.lines_len)) (lines_follow _ c.args.width c.deref-2.result.now)

pub invariant_of-laid : goal.invariant_of-laid
invariant_of-laid c =
    let text = c.args.text.items in
    let sizes = c.in_ok-sizes.sizes in
    let put = c.put_all_widths.ensures in
    let first : take (length text) sizes.items ≡ c.args.advances.items = ap (λ n. take n sizes.items) (sym c.requires.len) ∙ c.in_ok-sizes.ensures.advances in (
      c.in_ok-base.ensures.layout.len ∙ ap length c.deref-2.ensures.value,
      ap (λ (f : Filled). f.len) c.of-lines.ensures ∙ c.in_ok-base.ensures.layout.lines_len ∙ ap length c.deref-2.ensures.value,
      subst (λ (n : ℕ). AreWithin n c.of-lines.result.lines) (ap length c.deref-2.ensures.value) (subst (λ (f : Filled). AreWithin (length c.deref-2.result.now) f.lines) (sym c.of-lines.ensures) c.in_ok-base.ensures.layout.within),
      c.requires.paragraph.within,
      λ measured. sizes_after c.tab_width-tab_width.result sizes.len text c.deref-4.result.now sizes.items c.deref_mut.result.now c.put_all_widths.new.sizes c.of-lines.result.lines
          c.deref-4.ensures.value c.deref_mut.ensures.value (sym c.deref_mut.ensures.len ∙ ap length c.deref_mut.ensures.value)
          (c.in_ok-sizes.ensures.len text (sym c.requires.len)) (subst (λ (xs : List ℕ). sum xs < 2 ^ 32) (sym first) c.requires.room) put.advances put.len (put.widths measured),
    )

pub returns-clause-ok : goal.returns-clause-ok
returns-clause-ok c =
    let found = c.in_ok-base.ensures.layout in
    let text = c.args.text.items in
    let sizes = c.in_ok-sizes.sizes in
    let put = c.put_all_widths.ensures in
    let first : take (length text) sizes.items ≡ c.args.advances.items = ap (λ n. take n sizes.items) (sym c.requires.len) ∙ c.in_ok-sizes.ensures.advances in
    let rules = rules_of c.args.self.now in
    same_layout (with_advances rules (Some c.args.advances.items)) c.args.width text c.deref-2.result.now _ c.in_ok-base.base c.tab_width-tab_width.result c.fill_run.new.lists.levels.items c.fill_run.new.lists.marks.items
    c.fill_run.new.lists.ends.items c.of-lines.result.lines c.deref-2.ensures.value
    (advances_stay true sizes.len text c.deref-4.result.now sizes.items c.deref_mut.result.now c.put_all_widths.new.sizes c.deref-4.ensures.value c.deref_mut.ensures.value
    (sym c.deref_mut.ensures.len ∙ ap length c.deref_mut.ensures.value) put.advances put.len ∙ ap Some first)
    found.base_is (c.tab_width-tab_width.ensures ∙ ap (λ (r : Rules). tab_width_in r.tables r.options) c.fill_run.ensures.rules) found.levels found.marks found.ends
    (ap (λ (f : Filled). f.lines) c.of-lines.ensures ∙ found.lines ∙ ap (λ (xs : List ℕ). lines_of (with_advances rules (Some xs)) c.args.width c.deref-2.result.now) c.deref-3.ensures.value)
