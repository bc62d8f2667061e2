use Rattle.std.proofs.Common.{◌≡◌, ◌∙◌, ◌^◌, ◌<◌, ◌≤◌, List, ℕ, ap, length, subst, sum, sym, take}
use Rattle.lines.specs.Layouts.{AreWithin, Filled, Layout}
use Rattle.lines.specs.Measures.{FollowFrom}
use Rattle.lines.specs.declared.engine.TheConstants.{PARAGRAPH_LIMIT}
use Rattle.lines.proofs.MeasureLemmas.{sizes_after}
use Rattle.lines.proofs.VisualLemmas.{lines_follow, lines_within}
use Rattle.lines.proofs.laid.Laid.with_lines.Goals as goal

pub put_all_widths-requires-clause-within : goal.put_all_widths-requires-clause-within
put_all_widths-requires-clause-within c =
    let text : c.deref-5.result.now ≡ c.args.self.now.text = c.deref-5.ensures.value ∙ c.in_ok-text.ensures.items ∙ c.deref.ensures.value ∙ ap (λ (l : Layout). l.text) c.self.view_is in
    subst (λ (n : ℕ). AreWithin n c.args.lines.lines) (sym (ap length text))
    (subst (λ (f : Filled). AreWithin (length c.args.self.now.text) f.lines) (sym c.requires.lines.2) (lines_within c.requires.lines.0 c.requires.lines.1 c.args.self.now.text))

pub put_all_widths-requires-clause-lines : goal.put_all_widths-requires-clause-lines
put_all_widths-requires-clause-lines c =
    subst (λ (f : Filled). FollowFrom 0 f.lines) (sym c.requires.lines.2) (lines_follow c.requires.lines.0 c.requires.lines.1 c.args.self.now.text)

pub invariant_of-result : goal.invariant_of-result
invariant_of-result c =
    let text = c.in_ok-text.text.items in
    let sizes = c.in_ok-sizes.sizes in
    let put = c.put_all_widths.ensures in
    let inside : text ≡ c.self.inside.text.items = c.in_ok-text.ensures.items ∙ c.deref.ensures.value in
    let whole : text ≡ c.args.self.now.text = inside ∙ ap (λ (l : Layout). l.text) c.self.view_is in
    let size : length text ≡ length c.args.advances.items = ap length whole ∙ sym c.requires.len in
    let first : take (length text) sizes.items ≡ c.args.advances.items = ap (λ n. take n sizes.items) size ∙ c.in_ok-sizes.ensures.advances in (
      ap length (c.in_ok-levels.ensures.items ∙ c.deref-2.ensures.value) ∙ c.self.invariant.0 ∙ sym (ap length inside),
      ap (λ (f : Filled). f.len) c.requires.lines.2 ∙ sym (ap length whole),
      subst (λ (n : ℕ). AreWithin n c.args.lines.lines) (sym (ap length whole))
          (subst (λ (f : Filled). AreWithin (length c.args.self.now.text) f.lines) (sym c.requires.lines.2) (lines_within c.requires.lines.0 c.requires.lines.1 c.args.self.now.text)),
      subst (λ (t : List ℕ). length t ≤ PARAGRAPH_LIMIT) (sym inside) c.self.invariant.3,
      λ measured. sizes_after c.self.inside.tab_width sizes.len text c.deref-5.result.now sizes.items c.deref_mut.result.now c.put_all_widths.new.sizes c.args.lines.lines
          c.deref-5.ensures.value c.deref_mut.ensures.value (sym c.deref_mut.ensures.len ∙ ap length c.deref_mut.ensures.value)
          (c.in_ok-sizes.ensures.len text size) (subst (λ (xs : List ℕ). sum xs < 2 ^ 32) (sym first) c.requires.room) put.advances put.len (put.widths measured),
    )
