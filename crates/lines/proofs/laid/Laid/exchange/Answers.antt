use Rattle.std.proofs.Common.{rules, ◌≡◌, ◌∙◌, Option, List, ap, ap₂, length, subst, sym, ℕ}
use Rattle.lines.specs.Layouts.{AreWithin, Filled, Layout}
use Rattle.lines.specs.Measures.{FollowFrom}
use Rattle.lines.specs.Visual.{Line}
use Rattle.lines.proofs.LayoutLemmas.{exchanged_by}
use Rattle.lines.proofs.MeasureLemmas.{advances_stay, sizes_after}
use Rattle.lines.proofs.VisualLemmas.{lines_follow, lines_within}
use Rattle.lines.proofs.laid.Laid.exchange.Goals as goal

pub put_all_widths-requires-clause-within : goal.put_all_widths-requires-clause-within
put_all_widths-requires-clause-within c =
    let filled = c.requires.2 in
    let text : c.args.self.now.text ≡ c.deref.result.now = sym (c.deref.ensures.value ∙ ap (λ (l : Layout). l.text) c.self.view_is) in
    subst (λ (n : ℕ). AreWithin n c.swap.new.x.lines) (ap length text)
    (subst (λ (f : Filled). AreWithin (length c.args.self.now.text) f.lines) (sym (c.swap.ensures.x_after ∙ filled.from_scratch))
    (lines_within c.requires.0 filled.width c.args.self.now.text))

pub put_all_widths-requires-clause-lines : goal.put_all_widths-requires-clause-lines
put_all_widths-requires-clause-lines c =
    let filled = c.requires.2 in
    subst (λ (f : Filled). FollowFrom 0 f.lines) (sym (c.swap.ensures.x_after ∙ filled.from_scratch)) (lines_follow c.requires.0 filled.width c.args.self.now.text)

pub invariant_of-self : goal.invariant_of-self
invariant_of-self c =
    let filled = c.requires.2 in
    let text : c.args.self.now.text ≡ c.self.inside.text.items = sym (ap (λ (l : Layout). l.text) c.self.view_is) in (
      c.self.invariant.0,
      ap (λ (f : Filled). f.len) (c.swap.ensures.x_after ∙ filled.from_scratch) ∙ ap length text,
      subst (λ (n : ℕ). AreWithin n c.swap.new.x.lines) (ap length text)
          (subst (λ (f : Filled). AreWithin (length c.args.self.now.text) f.lines) (sym (c.swap.ensures.x_after ∙ filled.from_scratch))
          (lines_within c.requires.0 filled.width c.args.self.now.text)),
      c.self.invariant.3,
      λ measured. let old = c.self.invariant.4 measured in
          let put = c.put_all_widths.ensures in
          sizes_after c.self.inside.tab_width c.self.inside.sizes.len c.self.inside.text.items c.deref.result.now c.self.inside.sizes.items c.deref_mut.result.now c.put_all_widths.new.sizes c.swap.new.x.lines
          c.deref.ensures.value c.deref_mut.ensures.value (sym c.deref_mut.ensures.len ∙ ap length c.deref_mut.ensures.value) old.len old.room put.advances put.len (put.widths measured),
    )

pub returns : goal.returns
returns c =
    let it = c.self.inside in
    let put = c.put_all_widths.ensures in
    let advances = advances_stay it.is_measured it.sizes.len it.text.items c.deref.result.now it.sizes.items c.deref_mut.result.now c.put_all_widths.new.sizes c.deref.ensures.value c.deref_mut.ensures.value
    (sym c.deref_mut.ensures.len ∙ ap length c.deref_mut.ensures.value) put.advances put.len in
    exchanged_by c.args.self.now _ c.args.fill.now _
    (ap₂ (λ (a : Option (List ℕ)) (ls : List Line). let l : Layout = record {
      text = it.text.items;
      advances = a;
      base = it.base;
      tab_width = it.tab_width;
      levels = it.levels.items;
      marks = it.marks.items;
      ends = it.ends.items;
      lines = ls;
    } in l) advances (ap (λ (f : Filled). f.lines) c.swap.ensures.x_after)
    ∙ ap (λ (l : Layout). let m : Layout = record l { lines = c.args.fill.now.lines } in m) c.self.view_is)
    (search rules)
