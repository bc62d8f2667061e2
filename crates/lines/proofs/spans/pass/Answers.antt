use Rattle.std.proofs.Common.{◌≡◌, ◌<◌, Bool, ap, subst, ◌∙◌, sym, inl, inr, arith, true, false, get_or, not, refl}
use mathlib.Core.Bool.{beq}
use Rattle.std.proofs.lemmas.Bool.{cases_eq, true≢false}
use Rattle.std.specs.Prelude.{option_map}
use Rattle.lines.specs.Selections.{columns_on, selected_in}
use Rattle.lines.specs.Spans.{is_selected}
use Rattle.lines.proofs.MeasureLemmas.{known_width}
use Rattle.lines.proofs.SelectionLemmas.{reached_more}
use Rattle.lines.proofs.spans.pass.Goals as goal
use Rattle.lines.proofs.spans.pass.Goals.{else-columns-gt0-via-then-columns-gt0+else-is_selected-inside, else-columns-gt0-via-else-columns-gt0}

same : (a b : Bool) → not (beq a b) ≡ false → a ≡ b
same true true e = refl
same true false e = absurd (true≢false e)
same false true e = absurd (true≢false e)
same false false e = refl

pub loop-place-preserved : goal.loop-place-preserved
loop-place-preserved c =
    let s = c.args.selection.now in
    let value = known_width (option_map (λ list. list.now) c.known-known.result) {line = selected_in s} (get_or s.vtol.now c.loop-place.place 0) refl c.known-known.ensures.widths c.columns_at-columns.ensures.value in
    let here : 0 < columns_on (selected_in s) c.loop-place.place → is_selected (selected_in s) s.start s.end c.loop-place.place ≡ c.args.inside =
    λ takes. elim c.else-columns-gt0.branch [
      | else-columns-gt0-via-then-columns-gt0+else-is_selected-inside w ↦ sym w.is_selected.ensures ∙ same w.is_selected.result c.args.inside w.if-is_selected-inside.false
      | else-columns-gt0-via-else-columns-gt0 w ↦ absurd (omega (arith, takes, value, w.if-columns-gt0.false))
    ] in
    record {
      at = reached_more s c.loop-place.place c.loop-place.column c.columns_at-columns.result c.loop-place.invariant.at c.loop-place-test.true value c.columns_at-columns.ensures.few;
      forward = omega (arith, c.loop-place.invariant.forward);
      passed = λ place from to takes. elim (cases_eq place c.loop-place.place) [
        | inl last ↦ ap (is_selected (selected_in s) s.start s.end) last ∙ here (subst (λ k. 0 < columns_on (selected_in s) k) last takes)
        | inr other ↦ c.loop-place.invariant.passed place from (omega (arith, to, other)) takes
      ];
    }
