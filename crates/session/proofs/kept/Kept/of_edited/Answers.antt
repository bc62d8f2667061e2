use Rattle.std.proofs.Common.{◌≡◌, ◌∙◌, ℕ, ◌+◌, List, length, ap, sym, arith}
use Rattle.std.specs.Char.{len_utf8}
use Rattle.std.specs.List.{slice_range}
use Rattle.lines.specs.Layouts.{Layout}
use Rattle.session.specs.Offsets.{len_utf16, length_in}
use Rattle.session.specs.declared.offsets.Encoding.TheVariants.{Utf8, Utf16}
use Rattle.session.proofs.EditedTextLemmas.{new_sum}
use Rattle.session.proofs.UnitLemmas.{few_units, utf16_few, utf8_few}
use Rattle.session.proofs.kept.Kept.of_edited.Goals as goal

pub overflow_sub-result : goal.overflow_sub-result
overflow_sub-result c =
    let e = c.args.edit in
    let old : c.text.result.now ≡ c.args.old.now.text = c.text.ensures ∙ ap (λ (l : Layout). l.text) (c.deref.ensures ∙ c.old.view_is) in
    let sum = new_sum len_utf8 c.args.old.now.text c.args.laid.text e c.old.inside.bytes c.lengths-removed.result.0 c.lengths-inserted.result.0 c.requires
    (c.old.invariant.2 ∙ ap (λ (l : Layout). length_in Utf8 l.text) c.old.view_is)
    (c.lengths-removed.ensures.bytes ∙ ap (λ (xs : List ℕ). length_in Utf8 (slice_range xs e.at (e.at + e.removed))) old)
    (c.lengths-inserted.ensures.bytes ∙ ap (λ (xs : List ℕ). length_in Utf8 (slice_range xs e.at (e.at + e.inserted))) c.text-text.ensures) in
    sum.0

pub overflow_add-result : goal.overflow_add-result
overflow_add-result c =
    let e = c.args.edit in
    let old : c.text.result.now ≡ c.args.old.now.text = c.text.ensures ∙ ap (λ (l : Layout). l.text) (c.deref.ensures ∙ c.old.view_is) in
    let sum = new_sum len_utf8 c.args.old.now.text c.args.laid.text e c.old.inside.bytes c.lengths-removed.result.0 c.lengths-inserted.result.0 c.requires
    (c.old.invariant.2 ∙ ap (λ (l : Layout). length_in Utf8 l.text) c.old.view_is)
    (c.lengths-removed.ensures.bytes ∙ ap (λ (xs : List ℕ). length_in Utf8 (slice_range xs e.at (e.at + e.removed))) old)
    (c.lengths-inserted.ensures.bytes ∙ ap (λ (xs : List ℕ). length_in Utf8 (slice_range xs e.at (e.at + e.inserted))) c.text-text.ensures) in
    omega (arith, sum.1, few_units len_utf8 utf8_few c.args.laid.text, ap (λ (xs : List ℕ). length xs) c.text-text.ensures)

pub overflow_sub-result-2 : goal.overflow_sub-result-2
overflow_sub-result-2 c =
    let e = c.args.edit in
    let old : c.text.result.now ≡ c.args.old.now.text = c.text.ensures ∙ ap (λ (l : Layout). l.text) (c.deref.ensures ∙ c.old.view_is) in
    let sum = new_sum len_utf16 c.args.old.now.text c.args.laid.text e c.old.inside.utf16 c.lengths-removed.result.1 c.lengths-inserted.result.1 c.requires
    (c.old.invariant.3 ∙ ap (λ (l : Layout). length_in Utf16 l.text) c.old.view_is)
    (c.lengths-removed.ensures.utf16 ∙ ap (λ (xs : List ℕ). length_in Utf16 (slice_range xs e.at (e.at + e.removed))) old)
    (c.lengths-inserted.ensures.utf16 ∙ ap (λ (xs : List ℕ). length_in Utf16 (slice_range xs e.at (e.at + e.inserted))) c.text-text.ensures) in
    sum.0

pub overflow_add-result-2 : goal.overflow_add-result-2
overflow_add-result-2 c =
    let e = c.args.edit in
    let old : c.text.result.now ≡ c.args.old.now.text = c.text.ensures ∙ ap (λ (l : Layout). l.text) (c.deref.ensures ∙ c.old.view_is) in
    let sum = new_sum len_utf16 c.args.old.now.text c.args.laid.text e c.old.inside.utf16 c.lengths-removed.result.1 c.lengths-inserted.result.1 c.requires
    (c.old.invariant.3 ∙ ap (λ (l : Layout). length_in Utf16 l.text) c.old.view_is)
    (c.lengths-removed.ensures.utf16 ∙ ap (λ (xs : List ℕ). length_in Utf16 (slice_range xs e.at (e.at + e.removed))) old)
    (c.lengths-inserted.ensures.utf16 ∙ ap (λ (xs : List ℕ). length_in Utf16 (slice_range xs e.at (e.at + e.inserted))) c.text-text.ensures) in
    omega (arith, sum.1, few_units len_utf16 utf16_few c.args.laid.text, ap (λ (xs : List ℕ). length xs) c.text-text.ensures)

pub invariant_of-result : goal.invariant_of-result
invariant_of-result c =
    let e = c.args.edit in
    let boxed : c.args.laid ≡ c.in_ok-new.field-0.value = sym c.in_ok-new.ensures.ok in
    let old : c.text.result.now ≡ c.args.old.now.text = c.text.ensures ∙ ap (λ (l : Layout). l.text) (c.deref.ensures ∙ c.old.view_is) in
    let utf8 = new_sum len_utf8 c.args.old.now.text c.args.laid.text e c.old.inside.bytes c.lengths-removed.result.0 c.lengths-inserted.result.0 c.requires
    (c.old.invariant.2 ∙ ap (λ (l : Layout). length_in Utf8 l.text) c.old.view_is)
    (c.lengths-removed.ensures.bytes ∙ ap (λ (xs : List ℕ). length_in Utf8 (slice_range xs e.at (e.at + e.removed))) old)
    (c.lengths-inserted.ensures.bytes ∙ ap (λ (xs : List ℕ). length_in Utf8 (slice_range xs e.at (e.at + e.inserted))) c.text-text.ensures) in
    let utf16 = new_sum len_utf16 c.args.old.now.text c.args.laid.text e c.old.inside.utf16 c.lengths-removed.result.1 c.lengths-inserted.result.1 c.requires
    (c.old.invariant.3 ∙ ap (λ (l : Layout). length_in Utf16 l.text) c.old.view_is)
    (c.lengths-removed.ensures.utf16 ∙ ap (λ (xs : List ℕ). length_in Utf16 (slice_range xs e.at (e.at + e.removed))) old)
    (c.lengths-inserted.ensures.utf16 ∙ ap (λ (xs : List ℕ). length_in Utf16 (slice_range xs e.at (e.at + e.inserted))) c.text-text.ensures) in (
      ap (λ (xs : List ℕ). length xs) c.text-text.ensures ∙ ap (λ (l : Layout). length l.text) boxed,
      c.line_count.ensures ∙ ap (λ (l : Layout). length l.lines) boxed,
      utf8.1 ∙ ap (λ (l : Layout). length_in Utf8 l.text) boxed,
      utf16.1 ∙ ap (λ (l : Layout). length_in Utf16 l.text) boxed,
    )
