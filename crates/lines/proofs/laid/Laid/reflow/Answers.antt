use Rattle.std.proofs.Common.{◌≡◌, ℕ, List, Option, length, ap, ap₂, subst, sym, ◌∙◌}
use Rattle.lines.specs.Extents.{extents_of, reflowed, shown_from, LineExtents}
use Rattle.lines.specs.Kept.{AreStarts}
use Rattle.lines.specs.Layouts.{AreWithin, Layout, Rules, unmeasured, with_advances}
use Rattle.lines.specs.CharInfos.{infos_of}
use Rattle.lines.specs.ShownParts.{margin_of}
use Rattle.lines.specs.Measures.{FollowFrom}
use Rattle.lines.specs.Showing.{lines_shown}
use Rattle.lines.specs.Visual.{Line}
use Rattle.lines.proofs.LayoutLemmas.{reflowed_by}
use Rattle.lines.proofs.MeasureLemmas.{advances_stay, sizes_after}
use Rattle.lines.proofs.VisualLemmas.{lines_follow, starts_within}
use Rattle.lines.proofs.laid.Laid.reflow.Goals as goal

pub reflow-requires-clause-starts : goal.reflow-requires-clause-starts
reflow-requires-clause-starts c =
    let rules : Rules = with_advances (unmeasured c.args.tables.now c.args.options) c.args.self.now.advances in
    let text = c.args.self.now.text in
    let len : length text ≡ length c.as_slice-text.result.now = sym (ap length (c.as_slice-text.ensures.value ∙ ap (λ (l : Layout). l.text) c.self.view_is)) in
    subst (λ (s : LineExtents). AreStarts (length c.as_slice-text.result.now) s.starts) (sym c.requires.extents.1)
    (subst (λ (n : ℕ). AreStarts n (extents_of rules c.requires.extents.0 text).starts) len (starts_within rules c.requires.extents.0 text))

pub reflow-requires-clause-shown : goal.reflow-requires-clause-shown
reflow-requires-clause-shown c =
    let text = c.args.self.now.text in
    let margin = margin_of c.args.options c.requires.extents.0 in
    let infos = infos_of c.args.tables.now c.args.options c.args.self.now.advances text in
    let len : length text ≡ length c.as_slice-text.result.now = sym (ap length (c.as_slice-text.ensures.value ∙ ap (λ (l : Layout). l.text) c.self.view_is)) in (
      margin,
      infos,
      ap (λ (s : LineExtents). s.shown) c.requires.extents.1
          ∙ ap₂ (λ (n : ℕ) (starts : List ℕ). shown_from margin n infos starts) len (sym (ap (λ (s : LineExtents). s.starts) c.requires.extents.1)),
    )

pub put_all_widths-requires-clause-lines : goal.put_all_widths-requires-clause-lines
put_all_widths-requires-clause-lines c =
    let rules : Rules = with_advances (unmeasured c.args.tables.now c.args.options) c.args.self.now.advances in
    let lines : c.reflow.new.self.lines ≡ (reflowed rules c.args.self.now c.args.extents.now).lines =
    c.reflow.ensures.lines
    ∙ ap₂ (λ (ts ls : List ℕ). lines_shown c.args.tables.now c.args.options c.self.inside.base ts ls c.args.extents.now.starts c.args.extents.now.shown) c.as_slice-text.ensures.value c.deref-2.ensures.value
    ∙ ap (λ (l : Layout). lines_shown c.args.tables.now c.args.options l.base l.text l.levels c.args.extents.now.starts c.args.extents.now.shown) c.self.view_is in
    subst (FollowFrom 0) (sym (lines ∙ ap (λ (l : Layout). l.lines) (reflowed_by rules c.requires.extents.0 c.args.self.now c.args.extents.now c.requires.laid c.requires.extents.1)))
    (lines_follow rules c.requires.extents.0 c.args.self.now.text)

pub invariant_of-self : goal.invariant_of-self
invariant_of-self c = (
  c.self.invariant.0,
  c.reflow.ensures.len ∙ ap length c.as_slice-text.ensures.value,
  subst (λ (n : ℕ). AreWithin n c.reflow.new.self.lines) (ap length c.as_slice-text.ensures.value) c.reflow.ensures.within,
  c.self.invariant.3,
  λ measured. let old = c.self.invariant.4 measured in
      let put = c.put_all_widths.ensures in
      sizes_after c.self.inside.tab_width c.self.inside.sizes.len c.self.inside.text.items _ c.self.inside.sizes.items _ c.put_all_widths.new.sizes c.reflow.new.self.lines
      c.deref-3.ensures.value c.deref_mut-2.ensures.value (sym c.deref_mut-2.ensures.len ∙ ap length c.deref_mut-2.ensures.value) old.len old.room put.advances put.len (put.widths measured),
)

pub returns-clause-laid : goal.returns-clause-laid
returns-clause-laid c =
    let it = c.self.inside in
    let put = c.put_all_widths.ensures in
    let advances = advances_stay it.is_measured it.sizes.len it.text.items c.deref-3.result.now it.sizes.items c.deref_mut-2.result.now c.put_all_widths.new.sizes c.deref-3.ensures.value
    c.deref_mut-2.ensures.value (sym c.deref_mut-2.ensures.len ∙ ap length c.deref_mut-2.ensures.value) put.advances put.len in
    ap₂ (λ (a : Option (List ℕ)) (ls : List Line). let l : Layout = record {
      text = it.text.items;
      advances = a;
      base = it.base;
      tab_width = it.tab_width;
      levels = it.levels.items;
      marks = it.marks.items;
      ends = it.ends.items;
      lines = ls;
    } in l) advances
    (c.reflow.ensures.lines
    ∙ ap₂ (λ (ts ls : List ℕ). lines_shown c.args.tables.now c.args.options it.base ts ls c.args.extents.now.starts c.args.extents.now.shown) c.as_slice-text.ensures.value c.deref-2.ensures.value)
    ∙ ap (λ (l : Layout). reflowed (unmeasured c.args.tables.now c.args.options) l c.args.extents.now) c.self.view_is
